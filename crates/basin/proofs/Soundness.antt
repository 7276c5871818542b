-- Tables that no refusal meets fit together. Assumes nothing.
use Rattle.std.proofs.Common.{◌≡◌, ℕ, zero, suc, ◌+◌, ◌<◌, Bool, true, ◌&&◌, eqb, ltb, leb, List, [], ◌∷◌, length, get_or, Some, None, Option, subst, arith}
use Rattle.std.proofs.lemmas.Bool.{ltb-true, leb-true, eqb-true, and_parts}
use Rattle.refusals.specs.Refusals.{refuse}
use Rattle.network.specs.Records.{site0, reach0}
use Rattle.network.specs.declared.site.Site.{Site}
use Rattle.network.specs.declared.reach.Reach.{Reach}
use Rattle.basin.specs.Tables.{lengths_fit, stray_fault, lies_ahead, next_fault, areas, refused_unless, or_else, tables_fault}
use Rattle.basin.specs.Loops.{Ahead, Sound}
use Rattle.basin.proofs.Refusing.{both_none, unless_none, cond_none}

-- no stray site: every site's reach is one of n
sites_there : (n i : ℕ) (ss : List Site) → stray_fault n i ss ≡ None → (k : ℕ) → k < length ss → (get_or ss k site0).reach < n
sites_there n i [] e k h = absurd (let z : ⊥ = omega arith in z)
sites_there n i (s ∷ ss) e zero h = ltb-true s.reach n (cond_none (ltb s.reach n) (stray_fault n (suc i) ss) (refuse 52 i) e).0
sites_there n i (s ∷ ss) e (suc k) h = sites_there n (suc i) ss (cond_none (ltb s.reach n) (stray_fault n (suc i) ss) (refuse 52 i) e).1 k (omega arith)

-- a next reach that passes its test lies ahead
ahead : (o : Option ℕ) (j n : ℕ) → lies_ahead o j n ≡ true → Ahead o j n
ahead None j n e = tt
ahead (Some k) j n e = let p = and_parts (ltb j k) (ltb k n) e in (ltb-true j k p.0, ltb-true k n p.1)

-- no wrong next reach: every reach's next, counted from j, lies ahead
nexts_ahead : (n j : ℕ) (rs : List Reach) → next_fault n j rs ≡ None → (k p : ℕ) → p ≡ j + k → k < length rs → Ahead (get_or rs k reach0).channel.next p n
nexts_ahead n j [] e k p q h = absurd (let z : ⊥ = omega arith in z)
nexts_ahead n j (r ∷ rs) e zero p q h =
    let same : j ≡ p = omega arith in
    subst (λ (i : ℕ). Ahead r.channel.next i n) same (ahead r.channel.next j n (cond_none (lies_ahead r.channel.next j n) (next_fault n (suc j) rs) (refuse 53 j) e).0)
nexts_ahead n j (r ∷ rs) e (suc k) p q h = nexts_ahead n (suc j) rs (cond_none (lies_ahead r.channel.next j n) (next_fault n (suc j) rs) (refuse 53 j) e).1 k p (omega arith) (omega arith)

-- what each part of the tables' test says
record Passed (fit : Bool) (ss : List Site) (rs : List Reach) : Type 0 where
  pub fits : fit ≡ true
  pub strays : stray_fault (length rs) 0 ss ≡ None
  pub nexts : next_fault (length rs) 0 rs ≡ None
  pub small : leb (areas ss) 1000000000 ≡ true

-- tables that are not refused passed them all
passed_tables : (fit : Bool) (ss : List Site) (rs : List Reach) → tables_fault fit ss rs ≡ None → Passed fit ss rs
passed_tables fit ss rs e =
    let one = both_none (refused_unless fit (refuse 51 0)) (or_else (stray_fault (length rs) 0 ss) (or_else (next_fault (length rs) 0 rs) (refused_unless (leb (areas ss) 1000000000) (refuse 54 0)))) e in
    let two = both_none (stray_fault (length rs) 0 ss) (or_else (next_fault (length rs) 0 rs) (refused_unless (leb (areas ss) 1000000000) (refuse 54 0))) one.1 in
    let three = both_none (next_fault (length rs) 0 rs) (refused_unless (leb (areas ss) 1000000000) (refuse 54 0)) two.1 in
    record {
      fits = unless_none fit (refuse 51 0) one.0;
      strays = two.0;
      nexts = three.0;
      small = unless_none (leb (areas ss) 1000000000) (refuse 54 0) three.1;
    }

-- the lengths and the two tests make tables that fit
sound_from : (n : ℕ) (ss : List Site) (rs : List Reach) → lengths_fit (length ss) n (length rs) ≡ true → stray_fault (length rs) 0 ss ≡ None → next_fault (length rs) 0 rs ≡ None → Sound n ss rs
sound_from n ss rs fit strays nexts =
    let u = length ss in
    let v = length rs in
    let one = and_parts (leb 1 u) (leb u 1024 && (eqb n u && (leb 1 v && leb v 256))) fit in
    let two = and_parts (leb u 1024) (eqb n u && (leb 1 v && leb v 256)) one.1 in
    let three = and_parts (eqb n u) (leb 1 v && leb v 256) two.1 in
    let four = and_parts (leb 1 v) (leb v 256) three.1 in
    record {
      some = leb-true 1 u one.0;
      few = leb-true u 1024 two.0;
      many = eqb-true n u three.0;
      few_reaches = leb-true v 256 four.1;
      site = sites_there v 0 ss strays;
      next = λ j h. nexts_ahead v 0 rs nexts j j (omega arith) h;
    }

-- tables that are not refused fit together, and a further test beside their lengths passed too
pub sound_with : (x : Bool) (n : ℕ) (ss : List Site) (rs : List Reach) → tables_fault (lengths_fit (length ss) n (length rs) && x) ss rs ≡ None → (Sound n ss rs) × (x ≡ true)
sound_with x n ss rs e =
    let p = passed_tables (lengths_fit (length ss) n (length rs) && x) ss rs e in
    let both = and_parts (lengths_fit (length ss) n (length rs)) x p.fits in
    (sound_from n ss rs both.0 p.strays p.nexts, both.1)
