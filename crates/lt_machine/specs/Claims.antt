-- Partitions whose lists say for each delta the range in which it counts, and how two neighbours become one.
use Rattle.std.specs.Prelude.{Bool, List, None, Option, Some, [], false, filter, flat_map, fold, if◌then◌else◌, map, max, min, nat_lt, not, true, ℕ, ◌&&◌, ◌++◌, ◌==◌, ◌||◌, ◌∷◌, ◌≡◌}
use Rattle.std.specs.Option.{option_map_or}
use Rattle.std.specs.List.{list_all, list_any}
use Rattle.lt_terms.specs.Key.{Range, below, common, is_empty_range, lies_in, meets, same_key}
use Rattle.lt_tables.specs.Schema.{Catalogue}
use Rattle.lt_tables.specs.Version.{RowVersion, clip, merge}
use Rattle.lt_storage.specs.Store.{Delta, carried_versions, delta_with, merged_in}

-- a delta, in a range
pub record Claim : Type 0 where
  pub id : ℕ
  pub range : Range

-- by rising id, then by low bound; ranges are not empty, lie in the partition's range, and those of one id neither meet nor abut
abbrev pub abuts : Range → Range → Bool
abuts a b = option_map_or (λ h. same_key h b.low) a.high false

abbrev pub follows : Claim → Claim → Bool
follows a b = nat_lt a.id b.id || (a.id == b.id && below a.range.low b.range.low && not (meets a.range b.range) && not (abuts a.range b.range))

abbrev pub claims_rise : List Claim → Bool
claims_rise [] = true
claims_rise (c ∷ []) = true
claims_rise (c ∷ d ∷ cs) = follows c d && claims_rise (d ∷ cs)

abbrev pub are_claims : Range → List Claim → Bool
are_claims r cs = claims_rise cs && list_all (λ c. not (is_empty_range c.range) && lies_in c.range r) cs

-- a list of ids as claims: each counts in the partition's whole range
abbrev pub whole_claims : Range → List ℕ → List Claim
whole_claims r ids = map (λ id. record { id = id; range = r }) ids

-- the parts of the claims that lie in a range
abbrev pub cut_claim : Range → Claim → Claim
cut_claim r c = record c { range = common c.range r }

abbrev pub claims_in : Range → List Claim → List Claim
claims_in r cs = filter (λ c. not (is_empty_range c.range)) (map (cut_claim r) cs)

-- the keys below a range, and those above it
abbrev pub range_below : Range → Range
range_below r = record { low = []; high = Some r.low }

abbrev pub ranges_above : Range → List Range
ranges_above r = option_map_or (λ h. record { low = h; high = None } ∷ []) r.high []

abbrev pub claims_above : Range → Claim → List Claim
claims_above r c = flat_map (λ x. claims_in x (c ∷ [])) (ranges_above r)

-- the parts of the claims outside a range, in order
abbrev pub claims_outside : Range → List Claim → List Claim
claims_outside r cs = flat_map (λ c. claims_in (range_below r) (c ∷ []) ++ claims_above r c) cs

-- the claims of some ids lose their parts inside a range
abbrev pub without_inside : List ℕ → Range → List Claim → List Claim
without_inside ids r cs = flat_map (λ c. if list_any (λ i. i == c.id) ids then claims_outside r (c ∷ []) else c ∷ []) cs

-- a new claim has the greatest id
abbrev pub with_claim : Option ℕ → Range → List Claim → List Claim
with_claim None r cs = cs
with_claim (Some id) r cs = cs ++ record { id = id; range = r } ∷ []

-- a finished job in a partition: its inputs lose their parts inside its range, and its output counts in the common range
abbrev pub claims_after_job : List ℕ → Option ℕ → Range → Range → List Claim → List Claim
claims_after_job ids output job part cs = if meets part job then with_claim output (common part job) (without_inside ids job cs) else without_inside ids job cs

-- ---- two neighbours as one: claims of one id that abut are fused

abbrev pub put_claim : Claim → List Claim → List Claim
put_claim c [] = c ∷ []
put_claim c (d ∷ ds) = if nat_lt c.id d.id || (c.id == d.id && below c.range.low d.range.low) then c ∷ d ∷ ds else d ∷ put_claim c ds

abbrev pub onto_claims : Claim → List Claim → List Claim
onto_claims c [] = c ∷ []
onto_claims c (d ∷ ds) = if c.id == d.id && abuts c.range d.range then record { id = c.id; range = record { low = c.range.low; high = d.range.high } } ∷ ds else c ∷ d ∷ ds

abbrev pub fuse : List Claim → List Claim
fuse [] = []
fuse (c ∷ cs) = onto_claims c (fuse cs)

abbrev pub merged_claims : List Claim → List Claim → List Claim
merged_claims lower upper = fuse (fold (λ cs c. put_claim c cs) lower upper)

-- the joined checkpoint: the greater of the lesser R and the least checkpoint of the streams that count for the joined range
abbrev pub joined_checkpoint : ℕ → ℕ → ℕ → ℕ
joined_checkpoint r s streams = max (min r s) streams

-- what claims have of a table: each delta in its claim's range, merged in order
abbrev pub claimed : Catalogue → List Delta → List Claim → ℕ → List RowVersion
claimed cat shelf cs table = merge (map (λ c. option_map_or (λ d. clip c.range (carried_versions cat table d)) (delta_with shelf c.id) []) cs)

-- where each id counts in its partition's whole range, this is what the ids have there
abbrev pub WholeClaims : Type 0
WholeClaims = (cat : Catalogue) (shelf : List Delta) (ids : List ℕ) (r : Range) (table : ℕ) → claimed cat shelf (whole_claims r ids) table ≡ merged_in cat shelf ids r table
