use Rattle.std.proofs.Common.{ℕ, ◌%◌, ◌/◌, List, decimal, sym, ap, ◌∙◌, arith, rules}
use Rattle.std.proofs.lemmas.Fmt.{decimal_digit}
use Rattle.run_log.specs.Log.{written}
use Rattle.run_log.proofs.Overwrites.{length-written, written_next}
use Rattle.run_log.proofs.Decimals.{decimal_split, length-decimal_digit, length-decimal_split}
use Rattle.run_log.proofs.cursor.Cursor.+put_number.Goals as goal

pub put-requires : goal.put-requires
put-requires t c = omega (arith, length-decimal_digit c.args.number (omega arith))

pub put_number-requires : goal.put_number-requires
put_number-requires t c = (omega arith, omega (arith, length-decimal_split c.args.number (omega arith) (omega arith)))

pub put_number-requires-else-number-lt10 : goal.put_number-requires-else-number-lt10
put_number-requires-else-number-lt10 t c =
    let s = c.args.self.now in
    let n = c.args.number in
    let many = length-decimal_split n (omega arith) (omega arith) in
    let long = length-written (decimal (n / 10)) s.buffer.now c.put_number.new.self.buffer.now s.filled (omega arith) c.put_number.ensures.text in
    (omega arith, omega (arith, length-decimal_digit (n % 10) (omega arith)))

pub returns-then-number-lt10 : goal.returns-then-number-lt10
returns-then-number-lt10 t c =
    let s = c.args.self.now in
    record {
      same_buffer = search rules;
      text = c.put.ensures.text ∙ ap (λ (l : List ℕ). written l s.filled s.buffer.now) (sym (decimal_digit c.args.number (omega arith)));
      filled = omega (arith, length-decimal_digit c.args.number (omega arith));
    }

pub returns-else-number-lt10 : goal.returns-else-number-lt10
returns-else-number-lt10 t c =
    let s = c.args.self.now in
    let n = c.args.number in
    let front = c.put_number.new.self in
    record {
      same_buffer = search rules;
      text = c.put_number-else-number-lt10.ensures.text
          ∙ written_next (decimal (n / 10)) (decimal (n % 10)) s.buffer.now front.buffer.now s.filled front.filled (omega arith) c.put_number.ensures.text c.put_number.ensures.filled
          ∙ ap (λ (l : List ℕ). written l s.filled s.buffer.now) (sym (decimal_split n (omega arith) (omega arith)));
      filled = omega (arith, length-decimal_split n (omega arith) (omega arith), length-decimal_digit (n % 10) (omega arith));
    }
