-- Ranges that tile the keys: a key lies in one of them, so in a feed its changes stand in one stream, in order of time.
use Rattle.std.proofs.Common.{Bool, List, [], ap, append-nil, false, refl, subst, sym, true, ℕ, ◌++◌, ◌+◌, ◌∙◌, ◌∷◌, ◌≡◌}
use Rattle.std.specs.Prelude.{map}
use Rattle.std.proofs.lemmas.List.Elements.{filter-append}
use Rattle.lt_terms.specs.Key.{in_range, same_key}
use Rattle.lt_terms.specs.Log.{Change, Header, Item, change_key, changes_of}
use Rattle.lt_terms.specs.Value.{rises_strictly}
use Rattle.lt_world.specs.Feed.{Feed}
use Rattle.lt_tables.specs.Schema.{Catalogue}
use Rattle.lt_tables.specs.Fair.{changes_to}
use Rattle.lt_tables.specs.Row.{is_in_time}
use Rattle.lt_machine.specs.Sound.{Fronts, FrontsFrom, low_bounds, source_of}
use Rattle.lt_lemmas.proofs.RangeLaws.{IsOutOf, IsSole, tile_sole}
use Rattle.lt_laws.proofs.FairLaws.{fair_in_range, fair_in_time, none_to}

-- ---- the changes of a key

none_in : (feed : Feed) (cat : Catalogue) (n : ℕ) (key : List ℕ) (fs : List (Header × List Item)) → FrontsFrom feed cat n fs → IsOutOf key (map (λ h. h.range) (map (λ f. f.0) fs)) → changes_to key (source_of fs) ≡ []
none_in feed cat n key [] a o = refl
none_in feed cat n key (f ∷ fs) a o = filter-append (λ c. same_key (change_key c) key) (changes_of f.1) (source_of fs)
    ∙ ap (λ (x : List Change). x ++ changes_to key (source_of fs)) (none_to key f.0.range (changes_of f.1) o.0 (fair_in_range f.0 cat f.1 a.2.fair)) ∙ none_in feed cat (n + 1) key fs a.3 o.1

time_by : (feed : Feed) (cat : Catalogue) (n : ℕ) (key : List ℕ) (f : Header × List Item) (fs : List (Header × List Item)) (b : Bool) → in_range key f.0.range ≡ b → FrontsFrom feed cat n (f ∷ fs)
    → (b ≡ true → changes_to key (source_of fs) ≡ []) → is_in_time key (source_of fs) ≡ true → rises_strictly (map (λ c. c.ts) (changes_to key (changes_of f.1) ++ changes_to key (source_of fs))) ≡ true
time_by feed cat n key f fs true e a none time = ap (λ (x : List Change). rises_strictly (map (λ c. c.ts) (changes_to key (changes_of f.1) ++ x))) (none refl)
    ∙ ap (λ (x : List Change). rises_strictly (map (λ c. c.ts) x)) (append-nil (changes_to key (changes_of f.1))) ∙ fair_in_time f.0 cat f.1 a.2.fair key
time_by feed cat n key f fs false e a none time = ap (λ (x : List Change). rises_strictly (map (λ c. c.ts) (x ++ changes_to key (source_of fs)))) (none_to key f.0.range (changes_of f.1) e (fair_in_range f.0 cat f.1 a.2.fair)) ∙ time

time_in : (feed : Feed) (cat : Catalogue) (n : ℕ) (key : List ℕ) (fs : List (Header × List Item)) → FrontsFrom feed cat n fs → IsSole key (map (λ h. h.range) (map (λ f. f.0) fs)) → is_in_time key (source_of fs) ≡ true
time_in feed cat n key [] a s = refl
time_in feed cat n key (f ∷ fs) a s = ap (λ (x : List Change). rises_strictly (map (λ c. c.ts) x)) (filter-append (λ c. same_key (change_key c) key) (changes_of f.1) (source_of fs))
    ∙ time_by feed cat n key f fs (in_range key f.0.range) refl a (λ e. none_in feed cat (n + 1) key fs a.3 (s.0 e)) (time_in feed cat (n + 1) key fs a.3 s.1)

-- in a feed each key's changes stand in order of time
pub source_in_time : (feed : Feed) (cat : Catalogue) (fs : List (Header × List Item)) (key : List ℕ) → Fronts feed cat fs → is_in_time key (source_of fs) ≡ true
source_in_time feed cat fs key p = time_in feed cat 0 key fs p.each (subst (IsSole key) (sym p.tiling.1) (tile_sole key (low_bounds (map (λ f. f.0) fs)) p.tiling.0))
