-- A longer feed keeps each stream's bytes, headers and successors.
use Rattle.std.proofs.Common.{List, [], ap, append-nil, append_assoc, refl, suc, sym, zero, ℕ, ◌++◌, ◌+◌, ◌∙◌, ◌∷◌, ◌≡◌}
use Rattle.std.proofs.lemmas.Bool.{false≢true}
use Rattle.lt_terms.specs.Log.{Header, Item, batch_item, change_item, checkpoint_item, close_item, header_item, spelled}
use Rattle.lt_world.specs.Feed.{Feed, Grows, stream_bytes}
use Rattle.lt_tables.specs.Fair.{AreSuccessors, HasHeader, SuccessorsStand}

-- ---- a longer feed

pub bytes_grow : (feed more : Feed) → Grows feed more → (s : ℕ) → (extra : List ℕ) × (stream_bytes more s ≡ stream_bytes feed s ++ extra)
bytes_grow [] more g s = (stream_bytes more s, refl)
bytes_grow (old ∷ olds) [] g s = absurd g
bytes_grow (old ∷ olds) (now ∷ nows) g zero = g.0
bytes_grow (old ∷ olds) (now ∷ nows) g (suc s) = bytes_grow olds nows g.1 s

pub header_stays : (feed more : Feed) → Grows feed more → (s : ℕ) (h : Header) → HasHeader feed s h → HasHeader more s h
header_stays feed more g s h has = let b = bytes_grow feed more g s in record {
  number = has.number;
  lawful = has.lawful;
  rest = has.rest ++ b.0;
  spells = b.1 ∙ ap (λ x. x ++ b.0) has.spells ∙ append_assoc (spelled (header_item h)) has.rest b.0;
}

are_successors_stay : (feed more : Feed) → Grows feed more → (h : Header) (t first : ℕ) (gs : List Header) → AreSuccessors feed h t first gs → AreSuccessors more h t first gs
are_successors_stay feed more grows h t first [] a = tt
are_successors_stay feed more grows h t first (g ∷ gs) a = (header_stays feed more grows first g a.0, a.1, a.2, a.3, are_successors_stay feed more grows h t (first + 1) gs a.4)

pub successors_stay : (feed more : Feed) → Grows feed more → (h : Header) (t : ℕ) (i : Item) → SuccessorsStand feed h t i → SuccessorsStand more h t i
successors_stay feed more grows h t (header_item k) a = tt
successors_stay feed more grows h t (change_item c) a = tt
successors_stay feed more grows h t (checkpoint_item u) a = tt
successors_stay feed more grows h t (batch_item u cs) a = tt
successors_stay feed more grows h t (close_item first count) a = (a.0, a.1, are_successors_stay feed more grows h t first a.0 a.2, a.3)

pub grows_itself : (feed : Feed) → Grows feed feed
grows_itself [] = tt
grows_itself (b ∷ bs) = (([], sym (append-nil b)), grows_itself bs)

pub grows_then : (a b c : Feed) → Grows a b → Grows b c → Grows a c
grows_then [] [] [] h k = tt
grows_then [] [] (z ∷ c) h k = k
grows_then [] (y ∷ b) c h k = absurd (false≢true h)
grows_then (x ∷ a) [] c h k = absurd h
grows_then (x ∷ a) (y ∷ b) [] h k = absurd k
grows_then (x ∷ a) (y ∷ b) (z ∷ c) h k = ((h.0.0 ++ k.0.0, k.0.1 ∙ ap (λ s. s ++ k.0.0) h.0.1 ∙ append_assoc x h.0.0 k.0.0), grows_then a b c h.1 k.1)
