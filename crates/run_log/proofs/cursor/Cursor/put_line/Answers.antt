use Rattle.std.proofs.Common.{◌≡◌, ℕ, ◌+◌, ◌≤◌, List, [], ◌∷◌, ◌++◌, length, decimal, ap, ◌∙◌, append_assoc, arith, length-append, rules}
use Rattle.run_log.specs.Log.{line_bytes, written}
use Rattle.run_log.proofs.Overwrites.{written_next}
use Rattle.run_log.proofs.cursor.Cursor.put_line.Goals as goal

pub returns : goal.returns
returns c =
    let xs = c.args.self.now.buffer.now in
    let at = c.args.self.now.filled in
    let name = c.args.name.now in
    let digits : List ℕ = decimal c.args.number in
    let front : List ℕ = name ++ (32 ∷ []) in
    let room : at ≤ length xs = omega arith in
    let one = c.put.ensures.text ∙ ap (λ (l : List ℕ). written l at xs) c.as_bytes.ensures.value in
    let first : c.put.new.self.filled ≡ at + length name = omega (arith, c.put.ensures.filled, ap length c.as_bytes.ensures.value) in
    let two = c.put-2.ensures.text ∙ written_next name (32 ∷ []) xs c.put.new.self.buffer.now at c.put.new.self.filled room one first in
    let second : c.put-2.new.self.filled ≡ at + length front = omega (arith, length-append name (32 ∷ [])) in
    let three = c.put_number.ensures.text ∙ written_next front digits xs c.put-2.new.self.buffer.now at c.put-2.new.self.filled room two second in
    let third : c.put_number.new.self.filled ≡ at + length (front ++ digits) = omega (arith, length-append front digits) in
    let whole : (front ++ digits) ++ (10 ∷ []) ≡ line_bytes (name, c.args.number) = simp append_assoc in
    record {
      same_buffer = search rules;
      text = c.put-3.ensures.text
          ∙ written_next (front ++ digits) (10 ∷ []) xs c.put_number.new.self.buffer.now at c.put_number.new.self.filled room three third
          ∙ ap (λ (l : List ℕ). written l at xs) whole;
      filled = omega (arith, third, ap length whole, length-append (front ++ digits) (10 ∷ []));
    }
