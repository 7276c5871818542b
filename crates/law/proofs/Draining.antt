-- What a reach gives is a matter of what drains to it. Assumes nothing.
use Rattle.std.proofs.Common.{◌≡◌, ℕ, ◌+◌, ◌-◌, ◌<◌, ◌≤◌, cond, List, [], ◌∷◌, length, get_or, Some, Ok, Err, sum_by, sym, refl, ap, ◌∙◌, subst, inl, inr, arith}
use Rattle.std.proofs.lemmas.List.Sums.{sum_by-cons}
use Rattle.weather.specs.Meaning.{Meaning, asked}
use Rattle.weather.specs.declared.day.Day.{Day}
use Rattle.stores.specs.declared.flows.Flows.{Flows}
use Rattle.network.specs.Records.{reach0, flow0}
use Rattle.network.specs.declared.channel.Channel.{Channel}
use Rattle.network.specs.declared.site.Site.{Site}
use Rattle.network.specs.declared.reach.Reach.{Reach}
use Rattle.network.specs.declared.flows.ReachFlow.{ReachFlow}
use Rattle.network.specs.declared.flows.UnitFlow.{UnitFlow}
use Rattle.basin.specs.declared.answer.Answer.{Answer}
use Rattle.basin.specs.Tables.{State, View}
use Rattle.basin.specs.Day.{Moved}
use Rattle.basin.specs.Run.{Days, none, reach_over}
use Rattle.basin.specs.Loops.{Sound}
use Rattle.basin.specs.Calls.{Call, run, pour, draw, filled, stored_in, History, fresh, then}
use Rattle.basin.specs.Law.{days_of, writes}
use Rattle.basin.proofs.Amounts.{taken, left}
use Rattle.basin.proofs.Balance.{Lasting, lasting}
use Rattle.basin.proofs.Went.{Went, went}
use Rattle.law.specs.Upstream.{Drains, itself, through, Either, Alike, SameWeather, Paired, no_calls, both_run, both_pour, no_pour, both_draw, no_draw, SameOutflow, FollowsUpstream, Never}
use Rattle.law.proofs.Twins.{Like, Places, Skies, TurnAlike, days_like, like_set}

-- ---- what drains in one drains in the other
module _ {S T : Type 0} {same : S → T → Type 0} {j : ℕ} {a : View S} {a' : View T} (al : Alike same j a a') where
  -- from the second to the first
  over : {k : ℕ} → Drains a'.state.reaches j k → Drains a.state.reaches j k
  over itself = itself
  over (through {k = k} h e d) =
      let here : k < length a.state.reaches = omega arith in
      through here (ap (λ (x : Reach). x.channel.next) (al.reach k here (inr (through h e d))) ∙ e) (over d)

  -- from the first to the second
  back : {k : ℕ} → Drains a.state.reaches j k → Drains a'.state.reaches j k
  back itself = itself
  back (through {k = k} h e d) =
      let there : k < length a'.state.reaches = omega arith in
      through there (sym (ap (λ (x : Reach). x.channel.next) (al.reach k h (inl (through h e d)))) ∙ e) (back d)

  -- what drains in the first to what drains in either drains in either
  up_either : (k l : ℕ) → k < length a.state.reaches → (get_or a.state.reaches k reach0).channel.next ≡ Some l → Either j a a' l → Either j a a' k
  up_either k l h e (inl d) = inl (through h e d)
  up_either k l h e (inr d) = inl (through h e (over d))

  -- and so in the second
  up_either' : (k l : ℕ) → k < length a.state.reaches → (get_or a'.state.reaches k reach0).channel.next ≡ Some l → Either j a a' l → Either j a a' k
  up_either' k l h e (inl d) = inr (through (omega arith) e (back d))
  up_either' k l h e (inr d) = inr (through (omega arith) e d)

  -- so the two are alike as the days take them
  like_first : Like same (Either j a a') a.sites a.state a'.state
  like_first = record { reaches_long = al.reaches_long; reach = al.reach; unit = al.unit; up = up_either; up' = up_either' }

  -- and so are their sites
  places : Places (Either j a a') a.sites a'.sites
  places = record { long = al.sites_long; site = al.site }

-- one call more, of equally many days
days_more : (cs cs' : List Call) (c c' : Call) → days_of c' ≡ days_of c → sum_by days_of cs' ≡ sum_by days_of cs → sum_by days_of (c' ∷ cs') ≡ sum_by days_of (c ∷ cs)
days_more cs cs' c c' e x = sum_by-cons days_of c' cs' ∙ (λ j. e j + x j) ∙ sym (sum_by-cons days_of c cs)

-- as many days in the one list of calls as in the other
days_paired : {S T : Type 0} {j : ℕ} {a : View S} {a' : View T} {cs cs' : List Call} → Paired j a a' cs cs' → sum_by days_of cs' ≡ sum_by days_of cs
days_paired no_calls = refl
days_paired (both_run {cs} {cs'} {m} {m'} {n} {us} {us'} {vs} {vs'} {rs} {rs'} {ts} {ts'} {r} {q} p e w) = days_more cs cs' (run m n us rs us' rs' r) (run m' n vs ts vs' ts' q) e (days_paired p)
days_paired (both_pour {cs} {cs'} k x {u} {u'} p) = days_more cs cs' (pour k x (Ok u)) (pour k x (Ok u')) refl (days_paired p)
days_paired (no_pour {cs} {cs'} k x {e} {e'} p) = days_more cs cs' (pour k x (Err e)) (pour k x (Err e')) refl (days_paired p)
days_paired (both_draw {cs} {cs'} k x {u} {u'} p) = days_more cs cs' (draw k x (Ok u)) (draw k x (Ok u')) refl (days_paired p)
days_paired (no_draw {cs} {cs'} k x {e} {e'} p) = days_more cs cs' (draw k x (Err e)) (draw k x (Err e')) refl (days_paired p)

module _ {S T : Type 0} (same : S → T → Type 0) (water : S → ℕ) (turns : S → ℕ → ℕ → Day → S → Flows → Type 0) (water' : T → ℕ) (turns' : T → ℕ → ℕ → Day → T → Flows → Type 0) (alike : TurnAlike same turns turns')
    (j : ℕ) (a : View S) (a' : View T) (inside : j < length a.state.reaches) (al : Alike same j a a') where
  -- alike in the reach and in what drains to it
  abbrev Both : View S → View T → Type 0
  Both b b' = Like same (Either j a a') a.sites b.state b'.state

  -- one reach gets the same water in both
  write_both : {b c : View S} {b' c' : View T} (k x x' : ℕ) → Both b b' → c ≡ filled k x b → c' ≡ filled k x' b' → (stored_in b k ≡ stored_in b' k → x ≡ x') → Both c c'
  write_both {b} {c} {b'} {c'} k x x' like e e' so =
      let both : Both (filled k x b) (filled k x' b') = like_set k x x' like so in
      subst (λ (v : View S). Both v c') (sym e) (subst (λ (v : View T). Both (filled k x b) v) (sym e') both)

  -- neither is changed
  stay_both : {b c : View S} {b' c' : View T} → Both b b' → c ≡ b → c' ≡ b' → Both c c'
  stay_both {b} {c} {b'} {c'} like e e' = subst (λ (v : View S). Both v c') (sym e) (subst (λ (v : View T). Both b v) (sym e') like)

  -- equally many days, or none
  days_both : {m m' : Meaning} {from : ℕ} {b c : State S} {b' c' : State T} (t t' : List Moved) → Like same (Either j a a') a.sites b b' → Days water turns m from a.sites b t c → Days water' turns' m' from a'.sites b' t' c' → length t' ≡ length t →
      (1 ≤ length t → Sound (length b.units) a.sites b.reaches) → (1 ≤ length t' → Sound (length b'.units) a'.sites b'.reaches) →
      ((d : ℕ) → d < length t → Skies (Either j a a') a.sites b.reaches m m' (from + d)) → j < length b.reaches →
      Like same (Either j a a') a.sites c c' × ((reach_over j t).outflow ≡ (reach_over j t').outflow)
  days_both [] [] like none none e s s' w h = (like, refl)
  days_both [] (f' ∷ t') like d d' e s s' w h = absurd (omega arith)
  days_both (f ∷ t) [] like d d' e s s' w h = absurd (omega arith)
  days_both (f ∷ t) (f' ∷ t') like d d' e s s' w h =
      let both = days_like alike (places al) like (s (omega arith)) (s' (omega arith)) d d' e w in
      (both.0, both.1 j h (inl itself))

  -- runs of equally many days, each with its source
  run_both : {b c : View S} {b' c' : View T} {m m' : Meaning} {us' vs' : List UnitFlow} {rs' ts' : List ReachFlow} {r q : Answer} (cs cs' : List Call) → sum_by days_of cs' ≡ sum_by days_of cs → Both b b' → Lasting a cs b → Lasting a' cs' b' → q.days ≡ r.days → SameWeather j a a' m m' (a.day + sum_by days_of cs) r.days →
      Went water turns m us' rs' r b c → Went water' turns' m' vs' ts' q b' c' → Both c c' × ((cond (writes r) (get_or rs' j flow0) flow0).outflow ≡ (cond (writes q) (get_or ts' j flow0) flow0).outflow)
  run_both {b} {c} {b'} {c'} {m} {m'} {us'} {vs'} {rs'} {ts'} {r} {q} cs cs' equal like kept kept' count weather go go' =
      let from = a.day + sum_by days_of cs in
      let day' : b'.day ≡ from = omega arith in
      let w : Days water turns m from a.sites b.state go.moved c.state = subst (λ (l : List Site). Days water turns m from l b.state go.moved c.state) kept.sites (subst (λ (k : ℕ). Days water turns m k b.sites b.state go.moved c.state) kept.day go.days) in
      let w' : Days water' turns' m' from a'.sites b'.state go'.moved c'.state = subst (λ (l : List Site). Days water' turns' m' from l b'.state go'.moved c'.state) kept'.sites (subst (λ (k : ℕ). Days water' turns' m' k b'.sites b'.state go'.moved c'.state) day' go'.days) in
      let long : length go'.moved ≡ length go.moved = omega arith in
      let s : 1 ≤ length go.moved → Sound (length b.state.units) a.sites b.state.reaches = λ h. subst (λ (l : List Site). Sound (length b.state.units) l b.state.reaches) kept.sites (go.sound h) in
      let s' : 1 ≤ length go'.moved → Sound (length b'.state.units) a'.sites b'.state.reaches = λ h. subst (λ (l : List Site). Sound (length b'.state.units) l b'.state.reaches) kept'.sites (go'.sound h) in
      let skies : (d : ℕ) → d < length go.moved → Skies (Either j a a') a.sites b.state.reaches m m' (from + d) = λ d l.
      let d0 : d < r.days = omega arith in
      record {
        sites = λ i h p. weather.at_sites i d h d0 p;
        reaches = λ k h p.
            let h0 : k < length a.state.reaches = omega arith in
            subst (λ (x : Channel). asked m x.station (from + d) ≡ asked m' x.station (from + d)) (sym (kept.steady.channel k h0)) (weather.at_reaches k d h0 d0 p);
      } in
      let here : j < length b.state.reaches = omega arith in
      let there : j < length b'.state.reaches = omega arith in
      let both = days_both go.moved go'.moved like w w' long s s' skies here in
      (both.0, ap (λ (x : ReachFlow). x.outflow) (go.reach_told j here) ∙ both.1 ∙ sym (ap (λ (x : ReachFlow). x.outflow) (go'.reach_told j there)))

  -- call by call
  upstream : {cs cs' : List Call} {b : View S} {b' : View T} → Paired j a a' cs cs' → History water turns a cs b → History water' turns' a' cs' b' → Both b b' × SameOutflow j cs cs'
  upstream no_calls fresh fresh = (like_first al, tt)
  upstream (both_run {cs} {cs'} {m} {m'} {n} {us} {us'} {vs} {vs'} {rs} {rs'} {ts} {ts'} {r} {q} p e w) (then h st) (then h' st') =
      let old = upstream p h h' in
      let new = run_both cs cs' (days_paired p) old.0 (lasting h) (lasting h') e w (went water turns n us us' rs rs' st) (went water' turns' n vs vs' ts ts' st') in
      (new.0, (new.1, old.1))
  upstream (both_pour k x p) (then {b = b} h st) (then {b = b'} h' st') =
      let old = upstream p h h' in
      (write_both k (stored_in b k + x) (stored_in b' k + x) old.0 (taken st) (taken st') (ap (λ (n : ℕ). n + x)), (refl, old.1))
  upstream (no_pour k x p) (then h st) (then h' st') =
      let old = upstream p h h' in
      (stay_both old.0 (left st) (left st'), (refl, old.1))
  upstream (both_draw k x p) (then {b = b} h st) (then {b = b'} h' st') =
      let old = upstream p h h' in
      (write_both k (stored_in b k - x) (stored_in b' k - x) old.0 (taken st) (taken st') (ap (λ (n : ℕ). n - x)), (refl, old.1))
  upstream (no_draw k x p) (then h st) (then h' st') =
      let old = upstream p h h' in
      (stay_both old.0 (left st) (left st'), (refl, old.1))

  -- so the reach holds and gives the same
  follows_at : {cs cs' : List Call} {b : View S} {b' : View T} → Paired j a a' cs cs' → History water turns a cs b → History water' turns' a' cs' b' → (stored_in b j ≡ stored_in b' j) × SameOutflow j cs cs'
  follows_at p h h' =
      let both = upstream p h h' in
      (ap (λ (r : Reach). r.stored) (both.0.reach j (omega (arith, inside, (lasting h).steady.reaches)) (inl itself)), both.1)

-- where units that are the same turn alike, a reach follows what drains to it
pub follows : {S T : Type 0} (same : S → T → Type 0) (water : S → ℕ) (turns : S → ℕ → ℕ → Day → S → Flows → Type 0) (water' : T → ℕ) (turns' : T → ℕ → ℕ → Day → T → Flows → Type 0) → TurnAlike same turns turns' → FollowsUpstream same water turns water' turns'
follows same water turns water' turns' alike j a b a' b' cs cs' inside al p h h' = follows_at same water turns water' turns' alike j a a' inside al p h h'

-- units of two kinds are never the same
pub never_alike : {S T : Type 0} (turns : S → ℕ → ℕ → Day → S → Flows → Type 0) (turns' : T → ℕ → ℕ → Day → T → Flows → Type 0) → TurnAlike (Never {S = S} {T = T}) turns turns'
never_alike turns turns' s t i d w s' t' f g e x y = absurd e
