-- What is held stays behind a stream that moves on.
use Rattle.std.proofs.Common.{Bool, List, [], ap, arith, cond, false, inl, inr, refl, subst, sym, true, ℕ, ◌<◌, ◌∙◌, ◌∷◌, ◌≡◌, ◌≤◌, ◌⊎◌}
use Rattle.std.specs.Prelude.{IsTrue, filter, nat_lt}
use Rattle.std.specs.List.{AllByRecursion}
use Rattle.std.proofs.lemmas.Bool.{ltb-false}
use Rattle.lt_terms.specs.Key.{in_range, same_key}
use Rattle.lt_terms.specs.Log.{Change, change_key}
use Rattle.lt_tables.specs.Fair.{put_key, window_ts}
use Rattle.lt_tables.specs.Pump.{StreamAt}
use Rattle.lt_tables.specs.Schema.{Catalogue}
use Rattle.lt_codecs.proofs.ListFacts.{all_map}
use Rattle.lt_lemmas.proofs.PointLaws.{itself, same, window_ts-put}
use Rattle.lt_pump.specs.Given.{AreBehind, IsBehind}
use Rattle.lt_pump.specs.Positions.{IsOther}
use Rattle.lt_pump.proofs.PassLaws.{Passes}

-- a change that passes is another than each that is behind
pub other : (a : StreamAt) (cat : Catalogue) (c d : Change) → Passes a.header cat a.point c → IsBehind a d → IsOther c d
other a cat c d p b key at = at_one (b (ap (λ (k : List ℕ). in_range k a.header.range) key ∙ p.within))
  where
    at_one : (d.ts ≤ a.point.checkpoint) ⊎ (d.ts ≤ window_ts (change_key d) a.point.window) → ⊥
    at_one (inl l) = let above = p.above in absurd (omega (arith, above, l, at))
    at_one (inr l) = let later = p.later in let k : d.ts ≤ window_ts (change_key c) a.point.window = subst (λ (x : List ℕ). d.ts ≤ window_ts x a.point.window) key l in absurd (omega (arith, later, k, at))

pub others : (a : StreamAt) (cat : Catalogue) (c : Change) (held : List (List Change)) → Passes a.header cat a.point c → AreBehind a held → AllByRecursion (AllByRecursion (IsOther c)) held
others a cat c held p b = all_map (AllByRecursion (IsBehind a)) (AllByRecursion (IsOther c)) held (λ ds. all_map (IsBehind a) (IsOther c) ds (λ d. other a cat c d p)) b

-- ---- a change is taken

-- a stream of the same header, with a change more
pub record AfterChange (a b : StreamAt) (c : Change) : Type 0 where
  pub header : b.header ≡ a.header
  pub checkpoint : b.point.checkpoint ≡ a.point.checkpoint
  pub window : b.point.window ≡ put_key (change_key c) c.ts a.point.window

behind_by : (m t w : ℕ) (b : Bool) → m ≤ w → (b ≡ true → w < t) → m ≤ cond b t w
behind_by m t w true l h = let k = h refl in omega (arith, l, k)
behind_by m t w false l h = l

behind_change : (a b : StreamAt) (cat : Catalogue) (c d : Change) → Passes a.header cat a.point c → AfterChange a b c → IsBehind a d → IsBehind b d
behind_change a b cat c d p n h within = at_one (h (subst (λ (x : _). IsTrue (in_range (change_key d) x.range)) n.header within))
  where
    at_one : (d.ts ≤ a.point.checkpoint) ⊎ (d.ts ≤ window_ts (change_key d) a.point.window) → (d.ts ≤ b.point.checkpoint) ⊎ (d.ts ≤ window_ts (change_key d) b.point.window)
    at_one (inl l) = inl (subst (λ (m : ℕ). d.ts ≤ m) (sym n.checkpoint) l)
    at_one (inr l) = inr (subst (λ (m : ℕ). d.ts ≤ m) (sym (ap (window_ts (change_key d)) n.window ∙ window_ts-put (change_key d) (change_key c) c.ts a.point.window))
        (behind_by d.ts c.ts (window_ts (change_key d) a.point.window) (same_key (change_key d) (change_key c)) l
        (λ e. subst (λ (k : List ℕ). window_ts k a.point.window < c.ts) (sym (same (change_key d) (change_key c) e)) p.later)))

pub behind_self : (a b : StreamAt) (c : Change) → AfterChange a b c → IsBehind b c
behind_self a b c n within = inr (subst (λ (m : ℕ). c.ts ≤ m) (sym (ap (window_ts (change_key c)) n.window ∙ window_ts-put (change_key c) (change_key c) c.ts a.point.window
    ∙ ap (λ (x : Bool). cond x c.ts (window_ts (change_key c) a.point.window)) (itself (change_key c)))) (omega arith))

pub behind_after : (a b : StreamAt) (cat : Catalogue) (c : Change) (held : List (List Change)) → Passes a.header cat a.point c → AfterChange a b c → AreBehind a held → AreBehind b held
behind_after a b cat c held p n h = all_map (AllByRecursion (IsBehind a)) (AllByRecursion (IsBehind b)) held (λ ds. all_map (IsBehind a) (IsBehind b) ds (λ d. behind_change a b cat c d p n)) h

-- ---- a checkpoint is taken

kept_by : (m t last rest kept : ℕ) (same above : Bool) → nat_lt t last ≡ above → m ≤ cond same last rest → (m ≤ rest → (m ≤ t) ⊎ (m ≤ kept)) → (m ≤ t) ⊎ (m ≤ cond above (cond same last kept) kept)
kept_by m t last rest kept true true e l h = inr l
kept_by m t last rest kept true false e l h = inl (let k : last ≤ t = ltb-false t last e in omega (arith, l, k))
kept_by m t last rest kept false true e l h = h l
kept_by m t last rest kept false false e l h = h l

window_kept : (key : List ℕ) (t : ℕ) (w : List ℕ × ℕ) (ws : List (List ℕ × ℕ)) (b : Bool) → window_ts key (cond b (w ∷ ws) ws) ≡ cond b (cond (same_key key w.0) w.1 (window_ts key ws)) (window_ts key ws)
window_kept key t w ws true = refl
window_kept key t w ws false = refl

behind_window : (key : List ℕ) (m t : ℕ) (ws : List (List ℕ × ℕ)) → m ≤ window_ts key ws → (m ≤ t) ⊎ (m ≤ window_ts key (filter (λ w. nat_lt t w.1) ws))
behind_window key m t [] l = inr l
behind_window key m t (w ∷ ws) l = subst (λ (n : ℕ). (m ≤ t) ⊎ (m ≤ n)) (sym (window_kept key t w (filter (λ w. nat_lt t w.1) ws) (nat_lt t w.1)))
    (kept_by m t w.1 (window_ts key ws) (window_ts key (filter (λ w. nat_lt t w.1) ws)) (same_key key w.0) (nat_lt t w.1) refl l (behind_window key m t ws))

pub record AfterCheckpoint (a b : StreamAt) (t : ℕ) : Type 0 where
  pub header : b.header ≡ a.header
  pub later : a.point.checkpoint ≤ t
  pub checkpoint : b.point.checkpoint ≡ t
  pub window : b.point.window ≡ filter (λ w. nat_lt t w.1) a.point.window

behind_checkpoint : (a b : StreamAt) (t : ℕ) (d : Change) → AfterCheckpoint a b t → IsBehind a d → IsBehind b d
behind_checkpoint a b t d n h within = at_one (h (subst (λ (x : _). IsTrue (in_range (change_key d) x.range)) n.header within))
  where
    moved : (d.ts ≤ t) ⊎ (d.ts ≤ window_ts (change_key d) (filter (λ w. nat_lt t w.1) a.point.window)) → (d.ts ≤ b.point.checkpoint) ⊎ (d.ts ≤ window_ts (change_key d) b.point.window)
    moved (inl l) = inl (subst (λ (m : ℕ). d.ts ≤ m) (sym n.checkpoint) l)
    moved (inr l) = inr (subst (λ (ws : List (List ℕ × ℕ)). d.ts ≤ window_ts (change_key d) ws) (sym n.window) l)

    at_one : (d.ts ≤ a.point.checkpoint) ⊎ (d.ts ≤ window_ts (change_key d) a.point.window) → (d.ts ≤ b.point.checkpoint) ⊎ (d.ts ≤ window_ts (change_key d) b.point.window)
    at_one (inl l) = let k = n.later in inl (subst (λ (m : ℕ). d.ts ≤ m) (sym n.checkpoint) (omega (arith, l, k)))
    at_one (inr l) = moved (behind_window (change_key d) d.ts t a.point.window l)

pub behind_passed : (a b : StreamAt) (t : ℕ) (held : List (List Change)) → AfterCheckpoint a b t → AreBehind a held → AreBehind b held
behind_passed a b t held n h = all_map (AllByRecursion (IsBehind a)) (AllByRecursion (IsBehind b)) held (λ ds. all_map (IsBehind a) (IsBehind b) ds (λ d. behind_checkpoint a b t d n)) h
