-- The loop over the layers of soil. Assumes nothing.
use Rattle.std.specs.Prelude.{◌≡◌, ℕ, ◌+◌, ◌*◌, ◌<◌, ◌≤◌, List, [], ◌∷◌, ◌++◌, length, get_or, take, drop, slice_set, refl}
use Rattle.std.proofs.Common.{sym, ap, subst, ◌∙◌, arith, length-drop}
use Rattle.std.proofs.lemmas.List.{take_more, take_more_set, take-take, drop-take, drop-set-lt, drop_more}
use Rattle.std.proofs.lemmas.List.Sums.{sum_by-cons, sum_by_push, sum_by-take-drop, sum_by-take-le, sum_by_more_le}
use Rattle.profile.specs.Layers.{LayerTurn, through}
use Rattle.profile.specs.Soils.{LayersTurn, RowTurn, through_all, water_of, root_of, layers_root, layers_water}
use Rattle.profile.specs.declared.layer.Layer.{Layer}
use Rattle.profile.specs.declared.descent.Descent.{Descent}
use Rattle.profile.specs.Seeping.{layer_balance}

-- the layers above i have turned: before, after, what came to the top one, and what has come down
pub record Down (ls ms : List Layer) (above r : Descent) (i : ℕ) : Type 0 where
  pub turned : LayersTurn (take i ls) above (take i ms)
  pub passed : r ≡ through_all (take i ls) above
  pub rest : drop i ms ≡ drop i ls
  pub balance : layers_water (take i ms) + r.seepage + r.side + r.vapour ≡ layers_water (take i ls) + above.seepage + above.side + above.vapour
  pub drunk : r.vapour + r.demand ≤ above.vapour + above.demand

turn_push : (ls ms : List Layer) (r : Descent) (l m : Layer) → LayersTurn ls r ms → LayerTurn l (through_all ls r) m → LayersTurn (ls ++ (l ∷ [])) r (ms ++ (m ∷ []))
turn_push [] [] r l m e t = (t, tt)
turn_push [] (m' ∷ ms) r l m e t = absurd e
turn_push (l' ∷ ls) [] r l m e t = absurd e
turn_push (l' ∷ ls) (m' ∷ ms) r l m e t = (e.0, turn_push ls ms (through l' r) l m e.1 t)

through_push : (ls : List Layer) (r : Descent) (l : Layer) → through_all (ls ++ (l ∷ [])) r ≡ through l (through_all ls r)
through_push [] r l = refl
through_push (l' ∷ ls) r l = through_push ls (through l' r) l

module _ (ls ms : List Layer) (above r : Descent) (i : ℕ) (d : Layer) (p : Down ls ms above r i) (h : i < length ms) where
  there : i < length ls
  there = omega (arith, h, ap length p.rest, length-drop i ms, length-drop i ls)

  heads : get_or ms i d ∷ drop (i + 1) ms ≡ get_or ls i d ∷ drop (i + 1) ls
  heads = sym (drop_more ms i d h) ∙ p.rest ∙ drop_more ls i d there

  -- layer i has not turned yet
  here : get_or ls i d ≡ get_or ms i d
  here = cc heads

  -- that layer, with what comes down to it, holds no more than all did
  pub here_room : layers_water ls + above.seepage + above.side + above.vapour ≤ 100000000 → (get_or ms i d).water + r.seepage + r.side + r.vapour ≤ 100000000
  here_room room = omega (arith, p.balance, room, ap water_of here, sum_by_more_le water_of ls i d there)

  -- a layer more has turned
  pub here_more : (m : Layer) (s : Descent) → LayerTurn (get_or ms i d) r m → s ≡ through (get_or ms i d) r → s.vapour + s.demand ≤ r.vapour + r.demand → Down ls (slice_set ms i m) above s (i + 1)
  here_more m s turned passed drunk =
      let l = get_or ms i d in
      let old : take (i + 1) ls ≡ take i ls ++ (l ∷ []) = take_more ls i d there ∙ ap (λ (x : Layer). take i ls ++ (x ∷ [])) here in
      let new : take (i + 1) (slice_set ms i m) ≡ take i ms ++ (m ∷ []) = take_more_set ms i m h in
      let next : LayerTurn l (through_all (take i ls) above) m = subst (λ (x : Descent). LayerTurn l x m) p.passed turned in
      let kept : m.water + s.seepage + s.side + s.vapour ≡ l.water + r.seepage + r.side + r.vapour = ap (λ (x : Descent). m.water + x.seepage + x.side + x.vapour) passed ∙ layer_balance l r m turned in
      record {
        turned = rw (old, new) (turn_push (take i ls) (take i ms) above l m p.turned next);
        passed = passed ∙ ap (through l) p.passed ∙ sym (through_push (take i ls) above l) ∙ ap (λ (x : List Layer). through_all x above) (sym old);
        rest = drop-set-lt (i + 1) ms i m (omega arith) ∙ cc heads;
        balance = omega (arith, kept, p.balance, ap layers_water old ∙ sum_by_push water_of (take i ls) l, ap layers_water new ∙ sum_by_push water_of (take i ms) m);
        drunk = omega (arith, drunk, p.drunk);
      }

-- ---- the same, where one row at a time turns and is named by its place
-- one row more, whether or not there is one
front_more : (ms : List Layer) (i : ℕ) → layers_water (take (i + 1) ms) ≡ layers_water (take i ms) + layers_water (take 1 (drop i ms))
front_more ms i =
    sym (sum_by-take-drop water_of (take (i + 1) ms) i) ∙
    (λ j. layers_water (take-take i (i + 1) ms (omega arith) j) + layers_water (drop-take i 1 ms j))

-- the layers down to i, with what comes down to it, hold no more than all did
pub down_room : (ls : List Layer) (n : ℕ) (above : Descent) (ms : List Layer) (r : Descent) (i : ℕ) → i < n → Down ls ms above r i → layers_water (take n ls) + above.seepage + above.side + above.vapour ≤ 100000000 → layers_water (take (i + 1) ms) + r.seepage + r.side + r.vapour ≤ 100000000
down_room ls n above ms r i h p room =
    let old = front_more ls i in
    let new = front_more ms i in
    let part = ap layers_water (sym (take-take (i + 1) n ls (omega arith))) in
    omega (arith, p.balance, room, old, new, ap (λ (x : List Layer). layers_water (take 1 x)) p.rest, part, sum_by-take-le water_of (take n ls) (i + 1))

-- a layer more has turned
pub down_more : (ls : List Layer) (above : Descent) (ms : List Layer) (r : Descent) (i : ℕ) (ns : List Layer) (s : Descent) → Down ls ms above r i → RowTurn ms i r ns s → Down ls ns above s (i + 1)
down_more ls above ms r i ns s p t =
    let l = t.before in
    let is : get_or ms i l ≡ l = t.before_is l in
    let turned : LayerTurn (get_or ms i l) r t.after = subst (λ (x : Layer). LayerTurn x r t.after) (sym is) t.turned in
    let passed : s ≡ through (get_or ms i l) r = t.passed ∙ ap (λ (x : Layer). through x r) (sym is) in
    subst (λ (x : List Layer). Down ls x above s (i + 1)) (sym t.rows_are) (here_more ls ms above r i l p t.there t.after s turned passed t.drunk)

-- root water is a part of the water
pub root_le : (ls : List Layer) → layers_root ls ≤ layers_water ls
root_le [] = omega arith
root_le (l ∷ ls) = omega (arith, root_le ls, sum_by-cons water_of l ls, sum_by-cons root_of l ls)

-- and each layer holds at most so much
pub water_le : (ls : List Layer) → layers_water ls ≤ length ls * 100000000
water_le [] = omega arith
water_le (l ∷ ls) = omega (arith, water_le ls, sum_by-cons water_of l ls, l.held.1)
