-- How the images go on while a manifest is written to free space, and then made to count.
use Rattle.std.proofs.Common.{Bool, List, None, Option, Some, ap, arith, false, inl, inr, length, refl, subst, sym, true, ℕ, [], ◌++◌, ◌+◌, ◌-◌, ◌<◌, ◌∙◌, ◌∷◌, ◌≡◌, ◌≤◌, ◌⊎◌}
use Rattle.std.specs.Prelude.{Contains, Err, IfErr, IsSome, IsTrue, Ok, OnErr, OnOk, Result, nat_le}
use Rattle.std.proofs.lemmas.Bool.{and_parts, false≢true}
use Rattle.std.proofs.lemmas.List.Sorted.{Contains-permutation, IsPermutation-sym}
use Rattle.lt_terms.specs.declared.Extent.{Extent}
use Rattle.lt_terms.specs.declared.Root.{Root}
use Rattle.lt_world.specs.Disk.{LeavesNow, LeftOnly, bytes_in, with_bytes}
use Rattle.lt_world.specs.Extents.{end_of}
use Rattle.lt_world.specs.Slots.{HasRoot, slot_place}
use Rattle.lt_storage.specs.Store.{are_within, extents_of}
use Rattle.lt_disk.specs.Within.{IsStable, IsWithin, ReadsWithin}
use Rattle.lt_disk.proofs.Moments.{Device, holds_now, joined, told_at, weaker}
use Rattle.lt_root.specs.Roots.{next_root}
use Rattle.lt_root.specs.Steps.{HasCommitted, KeepsOthers, KeepsRoot}
use Rattle.lt_root.specs.declared.refusal.CommitFault.{CommitFault}
use Rattle.lt_root.specs.declared.refusal.CommitFault.TheVariants as faults
use Rattle.lt_disk.proofs.Written.{stays_written}
use Rattle.lt_laws.proofs.ListFacts.{contains_front, contains_rest, held_either}
use Rattle.lt_image_laws.specs.Commit.{IsPrepared, IsRootedOnEither}
use Rattle.lt_image_laws.specs.OnDisk.{IsCommit}
use Rattle.lt_image_laws.specs.Standing.{IsRooted, live_of}
use Rattle.lt_image_laws.proofs.Bytes.{bytes_stay}
use Rattle.lt_image_laws.proofs.Commit.{commit_laws}
use Rattle.lt_image_laws.proofs.Moves.{move_laws}
use Rattle.lt_image_laws.proofs.OnDisk.{after_fault, after_ok, broken_unplaced, broken_whole, either_stands, piece_in_gap}
use Rattle.lt_image_laws.proofs.Standing.{honest_stays}
use Rattle.lt_store.specs.Commits.{Going, HasPieces, IsBroken, IsWriting, Replaced, pieces_of, placing_behind}
use Rattle.lt_store.proofs.Preparing.{all_within, prepared_from, sealed_on}

pub some_there : (o : Option (List ℕ)) → IsSome o → (image : List ℕ) × (o ≡ Some image)
some_there None is = absurd (false≢true is)
some_there (Some image) is = (image, refl)

abbrev IsWrite : CommitFault → Type 0
IsWrite faults.Read = ⊥
IsWrite faults.Write = Unit {0}

no_read : {P : Type 0} → faults.Write ≡ faults.Read → P
no_read is = absurd (subst IsWrite is tt)

on_ok : {T E P Q : Type 0} (r : Result T E) → OnOk r P → (P → Q) → OnOk r Q
on_ok (Ok x) p f = f p
on_ok (Err e) p f = tt

on_both : {T E P Q R : Type 0} (r : Result T E) → OnOk r P → OnOk r Q → (P → Q → R) → OnOk r R
on_both (Ok x) p q f = f p q
on_both (Err e) p q f = tt

on_err : {T E P Q : Type 0} (r : Result T E) → OnErr r P → (P → Q) → OnErr r Q
on_err (Ok x) p f = tt
on_err (Err e) p f = f p

on_fault : {T E P Q : Type 0} (C : E → Type 0) (r : Result T E) → IfErr r (λ e. C e → P) → (P → Q) → IfErr r (λ e. C e → Q)
on_fault C (Ok x) p f = tt
on_fault C (Err e) p f = λ c. f (p c)

-- one of two, as it is known by now
abbrev Side : Type 0 → Type 0 → Bool → Type 0
Side A B false = A
Side A B true = B

pub side_of : {T E : Type 0} (A B : Type 0) (r : Result T E) → OnErr r (A ⊎ B) → (placed : Bool) × OnErr r (Side A B placed)
side_of A B (Ok x) torn = (false, tt)
side_of A B (Err e) (inl first) = (false, first)
side_of A B (Err e) (inr second) = (true, second)

within_rest : (image : List ℕ) (xs ys : List Extent) → IsTrue (are_within image (xs ++ ys)) → IsTrue (are_within image ys)
within_rest image [] ys h = h
within_rest image (x ∷ xs) ys h = within_rest image xs ys (and_parts (nat_le (end_of x) (length image)) (are_within image (xs ++ ys)) h).1

module _ {D : Type 0} (v : Device D) (old mid : D) (root : Root) (e : Extent) (bytes : List ℕ) (g : Going) (w : IsWriting (v.state old) root e bytes g)
    (images : LeftOnly (v.state old) (v.state mid) (IsWithin (v.state old) e.place e.length)) where
  abbrev Before : List ℕ → Type 0
  Before image = IsRooted g.feed g.before g.placing g.made image

  abbrev next : Root
  next = next_root root e.place e.length

  abbrev Either : List ℕ → Type 0
  Either image = IsRootedOnEither g.feed g.before g.placing g.made g.after (placing_behind (next_root root e.place e.length) g) g.made_after image

  made_live : (x : Extent) → Contains (live_of g.placing g.made) x → Contains (extents_of g.placing ++ (g.made ++ g.fresh)) x
  made_live x there = elim (held_either (extents_of g.placing) g.made x there) [
    | inl is ↦ contains_front (extents_of g.placing) (g.made ++ g.fresh) x is
    | inr is ↦ contains_rest (extents_of g.placing) (g.made ++ g.fresh) x (contains_front g.made g.fresh x is)
  ]

  pieces_live : (x : Extent) → Contains (pieces_of g.added) x → Contains (extents_of g.placing ++ (g.made ++ g.fresh)) x
  pieces_live x there =
      contains_rest (extents_of g.placing) (g.made ++ g.fresh) x
      (Contains-permutation (pieces_of g.added ++ g.made_after) (g.made ++ g.fresh) x (IsPermutation-sym (g.made ++ g.fresh) (pieces_of g.added ++ g.made_after) w.pieces) (contains_front (pieces_of g.added) g.made_after x there))

  -- at each moment of the write the state before stands
  pub before_stands : LeftOnly (v.state old) (v.state mid) (IsRooted g.feed g.before g.placing g.made)
  before_stands = piece_in_gap v g.feed g.before g.placing g.made old mid w.stands (extents_of g.placing ++ (g.made ++ g.fresh)) g.before.durable.limit e w.gap made_live images

  before_now : LeavesNow (v.state mid) (IsRooted g.feed g.before g.placing g.made)
  before_now = holds_now v old mid (IsRooted g.feed g.before g.placing g.made) before_stands

  -- the write failed
  pub not_written : Replaced (v.state old) (v.state mid) (next_root root e.place e.length) false g (Err faults.Write)
  not_written = record {
    any_moment = weaker v old mid (IsRooted g.feed g.before g.placing g.made) Either before_stands (λ c is. inl is);
    acknowledged = tt;
    unwritten = no_read;
    broken = λ c left. move_laws.breaks g.feed g.before g.after g.placing g.made c (before_now c left);
  }

  module _ (seen : List ℕ) (was : (v.state old).told ≡ Some seen) (tells : (v.state mid).told ≡ Some (with_bytes seen e.place bytes)) where
    now_reads : Before (with_bytes seen e.place bytes)
    now_reads = before_now (with_bytes seen e.place bytes) (told_at (v.state mid).told (with_bytes seen e.place bytes) (v.state mid).leaves tells (v.reads_an_image mid))

    limit_is : end_of e ≤ length (with_bytes seen e.place bytes)
    limit_is = omega (arith, bytes_stay.long seen bytes e.place, w.size)

    read_back : bytes_in (with_bytes seen e.place bytes) e ≡ bytes
    read_back = ap (λ n. bytes_in (with_bytes seen e.place bytes) (record { place = e.place; length = n })) w.size ∙ bytes_stay.there seen bytes e.place

    had : HasPieces g seen
    had = told_at (v.state old).told seen (HasPieces g) was w.written

    made_within : IsTrue (are_within (with_bytes seen e.place bytes) g.made)
    made_within = within_rest (with_bytes seen e.place bytes) (extents_of g.placing) g.made now_reads.honest.within

    fresh_within : IsTrue (are_within (with_bytes seen e.place bytes) g.fresh)
    fresh_within = bytes_stay.all_within seen (with_bytes seen e.place bytes) g.fresh (stays_written seen e.place bytes).longer had.within

    prepared : IsPrepared g.feed g.after (placing_behind (next_root root e.place e.length) g) g.made_after (with_bytes seen e.place bytes)
    prepared =
        prepared_from g.feed g.before g.after g.placing g.made g.made_after (next_root root e.place e.length) g.stays g.added (with_bytes seen e.place bytes) now_reads
        (record { fronts = w.on.fronts; good = w.on.good; limit = w.on.limit; job = w.on.job (with_bytes seen e.place bytes) now_reads.honest.job })
        (ap (λ (r : Root). r.generation + 1) (sym w.root_is) ∙ ap (λ n. n + 1) (honest_stays.generation g.feed g.before g.placing g.made _ now_reads) ∙ sym w.on.generation) w.on.shelf
        (sealed_on seen bytes e w.size g.before.durable.limit (extents_of g.placing ++ (g.made ++ g.fresh)) g.added w.gap pieces_live had.sealed) w.apart
        (all_within (with_bytes seen e.place bytes) g.made g.fresh g.made_after g.added e w.pieces made_within fresh_within limit_is) (read_back ∙ w.manifest)

    is_commit : IsCommit (v.state mid) root e.place e.length (with_bytes seen e.place bytes) g.feed g.before g.after g.placing (placing_behind (next_root root e.place e.length) g) g.made g.made_after
    is_commit = record {
      from = w.root_is;
      to = refl;
      stands = before_now;
      apart = w.made_apart;
      prepared = prepared;
    }

    -- what the root's commit asks
    pub may_commit : (1024 ≤ e.place) × (0 < e.length) × LeavesNow (v.state mid) (HasRoot root)
    may_commit =
        let may = commit_laws.may_stand g.feed g.after (placing_behind (next_root root e.place e.length) g) g.made_after (with_bytes seen e.place bytes) prepared in
        (may.0, may.1, λ c left. subst (λ r. HasRoot r c) w.root_is (before_now c left).root)

    -- what it gives
    module _ (new : D) (inside : LeftOnly (v.state mid) (v.state new) (IsWithin (v.state mid) (slot_place (1 - root.slot)) 512))
        (moments : LeftOnly (v.state mid) (v.state new) (λ c. HasRoot root c ⊎ HasCommitted (next_root root e.place e.length) (with_bytes seen e.place bytes) c))
        (result : Result (Unit {0}) CommitFault) where
      -- after a fault, on either side
      broken_so : (placed : Bool) → OnErr result (Side (KeepsRoot (v.state mid) (v.state new) root e.place e.length) (KeepsOthers (v.state mid) (v.state new) root e.place e.length) placed)
          → OnErr result (IsBroken (v.state new) (next_root root e.place e.length) placed g)
      broken_so false torn = on_err result torn (λ keeps.
          broken_unplaced v mid new root e.place e.length inside g.feed g.before g.after g.placing (placing_behind (next_root root e.place e.length) g) g.made g.made_after (with_bytes seen e.place bytes) is_commit
          (told_at (v.state mid).told (with_bytes seen e.place bytes) _ tells keeps may_commit.0 may_commit.1 may_commit.2))
      broken_so true torn = on_err result torn (λ keeps.
          broken_whole v mid new root e.place e.length inside g.feed g.before g.after g.placing (placing_behind (next_root root e.place e.length) g) g.made g.made_after (with_bytes seen e.place bytes) is_commit moments
          (told_at (v.state mid).told (with_bytes seen e.place bytes) _ tells keeps may_commit.0 may_commit.1 may_commit.2))

      pub replaced : (placed : Bool) → OnOk result (LeavesNow (v.state new) (HasRoot (next_root root e.place e.length))) → IfErr result (λ x. x ≡ faults.Read → LeftOnly (v.state mid) (v.state new) (HasRoot root))
          → OnErr result (Side (KeepsRoot (v.state mid) (v.state new) root e.place e.length) (KeepsOthers (v.state mid) (v.state new) root e.place e.length) placed)
          → ReadsWithin (slot_place (1 - root.slot)) 512 (v.state mid) (v.state new) → OnOk result (IsStable (v.state new)) → Replaced (v.state old) (v.state new) (next_root root e.place e.length) placed g result
      replaced placed acknowledged unwritten torn others stable = record {
        any_moment = joined v old mid new Before Either Either before_stands
            (either_stands v mid new root e.place e.length inside g.feed g.before g.after g.placing (placing_behind (next_root root e.place e.length) g) g.made g.made_after (with_bytes seen e.place bytes) is_commit moments)
            (λ c is. inl is) (λ c is. is);
        acknowledged = on_both result stable acknowledged (λ fixed now.
            after_ok v mid new root e.place e.length inside g.feed g.before g.after g.placing (placing_behind (next_root root e.place e.length) g) g.made g.made_after (with_bytes seen e.place bytes) is_commit tells others fixed now);
        unwritten = on_fault (λ x. x ≡ faults.Read) result unwritten (λ still. joined v old mid new Before Before Before before_stands
            (after_fault v mid new root e.place e.length inside g.feed g.before g.after g.placing (placing_behind (next_root root e.place e.length) g) g.made g.made_after (with_bytes seen e.place bytes) is_commit still) (λ c is. is) (λ c is. is));
        broken = broken_so placed torn;
      }
