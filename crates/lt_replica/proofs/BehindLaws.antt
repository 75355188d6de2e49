-- What is held stays behind the streams: the truth value, and what a pump asks for and gives.
use Rattle.std.proofs.Common.{Bool, List, [], false, inl, inr, le-leb, leb-true, refl, true, ℕ, ◌∷◌, ◌≡◌, ◌≤◌, ◌⊎◌}
use Rattle.std.specs.Prelude.{IfSome, IsTrue, nat_le, not, slice_get, suc, zero, ◌||◌}
use Rattle.std.specs.List.{AllByRecursion, list_all}
use Rattle.std.proofs.lemmas.Bool.{and_from, and_parts}
use Rattle.lt_tables.specs.Fair.{window_ts}
use Rattle.lt_terms.specs.Key.{in_range}
use Rattle.lt_terms.specs.Log.{Change, change_key}
use Rattle.lt_tables.specs.Pump.{StreamAt}
use Rattle.lt_machine.specs.Sound.{Memory}
use Rattle.lt_pump.specs.Given.{AreAllBehind, AreBehind, IsBehind}
use Rattle.lt_replica.specs.Behind.{are_behind, is_behind}

all_true : {A : Type 0} (p : A → Bool) (P : A → Type 0) → ((x : A) → P x → IsTrue (p x)) → (xs : List A) → AllByRecursion P xs → IsTrue (list_all p xs)
all_true p P f [] h = refl
all_true p P f (x ∷ xs) h = and_from (p x) (list_all p xs) (f x h.0) (all_true p P f xs h.1)

true_all : {A : Type 0} (p : A → Bool) (P : A → Type 0) → ((x : A) → IsTrue (p x) → P x) → (xs : List A) → IsTrue (list_all p xs) → AllByRecursion P xs
true_all p P f [] h = tt
true_all p P f (x ∷ xs) h = let q = and_parts (p x) (list_all p xs) h in (f x q.0, true_all p P f xs q.1)

change_true : (a : StreamAt) (c : Change) → IsBehind a c → IsTrue (is_behind a c)
change_true a c h = by (in_range (change_key c) a.header.range) h
  where
    either : (c.ts ≤ a.point.checkpoint) ⊎ (c.ts ≤ window_ts (change_key c) a.point.window) → IsTrue (nat_le c.ts a.point.checkpoint || nat_le c.ts (window_ts (change_key c) a.point.window))
    either (inl e) = first (nat_le c.ts a.point.checkpoint) (le-leb c.ts a.point.checkpoint e)
      where
        first : (b : Bool) → b ≡ true → IsTrue (b || nat_le c.ts (window_ts (change_key c) a.point.window))
        first true e = refl
        first false e = absurd cc
    either (inr e) = second (nat_le c.ts a.point.checkpoint) (le-leb c.ts (window_ts (change_key c) a.point.window) e)
      where
        second : (b : Bool) → nat_le c.ts (window_ts (change_key c) a.point.window) ≡ true → IsTrue (b || nat_le c.ts (window_ts (change_key c) a.point.window))
        second true e = refl
        second false e = e

    by : (b : Bool) → (IsTrue b → (c.ts ≤ a.point.checkpoint) ⊎ (c.ts ≤ window_ts (change_key c) a.point.window)) → IsTrue (not b || (nat_le c.ts a.point.checkpoint || nat_le c.ts (window_ts (change_key c) a.point.window)))
    by true h = either (h refl)
    by false h = refl

true_change : (a : StreamAt) (c : Change) → IsTrue (is_behind a c) → IsBehind a c
true_change a c h within = by (in_range (change_key c) a.header.range) within h
  where
    either : (b : Bool) → nat_le c.ts a.point.checkpoint ≡ b → IsTrue (b || nat_le c.ts (window_ts (change_key c) a.point.window)) → (c.ts ≤ a.point.checkpoint) ⊎ (c.ts ≤ window_ts (change_key c) a.point.window)
    either true e h = inl (leb-true c.ts a.point.checkpoint e)
    either false e h = inr (leb-true c.ts (window_ts (change_key c) a.point.window) h)

    by : (b : Bool) → IsTrue b → IsTrue (not b || (nat_le c.ts a.point.checkpoint || nat_le c.ts (window_ts (change_key c) a.point.window))) → (c.ts ≤ a.point.checkpoint) ⊎ (c.ts ≤ window_ts (change_key c) a.point.window)
    by true w h = either (nat_le c.ts a.point.checkpoint) refl h
    by false w h = absurd cc

pub behind_true : (ss : List StreamAt) (mem : Memory) → AreAllBehind ss mem → IsTrue (are_behind ss mem)
behind_true ss mem h = all_true _ _ (λ a h. all_true _ _ (λ cs h. all_true _ _ (change_true a) cs h) mem h) ss h

pub true_behind : (ss : List StreamAt) (mem : Memory) → IsTrue (are_behind ss mem) → AreAllBehind ss mem
true_behind ss mem h = true_all _ _ (λ a h. true_all _ _ (λ cs h. true_all _ _ (true_change a) cs h) mem h) ss h

pub behind_at : (ss : List StreamAt) (mem : Memory) → IsTrue (are_behind ss mem) → (n : ℕ) → IfSome (slice_get ss n) (λ a. AreBehind a mem)
behind_at ss mem h n = by ss n (true_behind ss mem h)
  where
    by : (ss : List StreamAt) (n : ℕ) → AreAllBehind ss mem → IfSome (slice_get ss n) (λ a. AreBehind a mem)
    by [] n h = tt
    by (a ∷ ss) zero h = h.0
    by (a ∷ ss) (suc n) h = by ss n h.1
