-- A store and its session over a commit.
use Rattle.std.proofs.Common.{Bool, List, [], ap, arith, false, inl, length, refl, subst, sym, true, ℕ, ◌+◌, ◌++◌, ◌∙◌, ◌∷◌, ◌≡◌}
use Rattle.std.specs.Prelude.{Err, IsTrue, Ok}
use Rattle.std.specs.List.Sorted.{IsPermutation}
use Rattle.std.proofs.lemmas.Bool.{false≢true}
use Rattle.std.proofs.lemmas.List.Sorted.{IsPermutation-sym, sum_by-IsPermutation}
use Rattle.std.proofs.lemmas.List.Sums.{sum_by-append, sum_by-cons}
use Rattle.lt_terms.specs.declared.Extent.{Extent}
use Rattle.lt_terms.specs.declared.Root.{Root}
use Rattle.lt_world.specs.Extents.{are_apart, is_gap}
use Rattle.lt_storage.specs.Store.{Manifest, Placing, extents_of, manifest_bytes, root_extent}
use Rattle.lt_disk.proofs.Moments.{Device, begins, told_at}
use Rattle.lt_space.specs.Extents.{Extents, Takes}
use Rattle.lt_delta.specs.Writing.{TakesGap}
use Rattle.lt_root.specs.Roots.{next_root}
use Rattle.lt_root.specs.declared.refusal.CommitFault.TheVariants as faults
use Rattle.lt_image_laws.specs.Commit.{IsRootedOnEither}
use Rattle.lt_image_laws.specs.Next.{those}
use Rattle.lt_image_laws.specs.Shelf.{placing_for, shelf_extents, shelved_of}
use Rattle.lt_image_laws.specs.Standing.{IsRooted}
use Rattle.lt_image_laws.proofs.Apart.{apart_laws}
use Rattle.lt_image_laws.proofs.Placed.{shelf_laws}
use Rattle.lt_image_laws.proofs.Room.{room_laws}
use Rattle.lt_image_laws.proofs.Standing.{honest_stays}
use Rattle.lt_store.specs.Commits.{Going, HasCommitted, IsReady, IsWriting, LeadsTo, Replaced, Replaces, StaysStore, kept_behind, leaving_of, pieces_behind, pieces_of, placing_behind}
use Rattle.lt_store.specs.Standing.{StandsAt}
use Rattle.lt_store.specs.declared.committing.CommitRefusal.{CommitRefusal}
use Rattle.lt_store.specs.declared.committing.CommitRefusal.TheVariants as refusals
use Rattle.lt_store.specs.declared.store.Store.{Store}
use Rattle.lt_store.proofs.Counting.{count, from_counts, same}
use Rattle.lt_store.proofs.Giving.{took}
use Rattle.lt_store.proofs.Keeping.{as_it_stood}
use Rattle.lt_store.proofs.Replacing.{some_there}
use Rattle.lt_store.proofs.Shelves.{behind, joined, parted}
use Rattle.lt_store.proofs.Shelves as shelves
use Rattle.lt_store.proofs.Spaces.{apart_permuted}

module _ {D : Type 0} (v : Device D) (old : D) (store : Store) (m : Manifest) (leaving : List Extent) (g : Going) (r : IsReady (v.state old) store m leaving g) where
  rooted : IsRooted g.feed g.before g.placing g.made (some_there (v.state old).told r.tells).0
  rooted =
      let there = some_there (v.state old).told r.tells in
      r.stands there.0 (told_at (v.state old).told there.0 (v.state old).leaves there.1 (v.reads_an_image old))

  limit_is : store.space.limit ≡ g.before.durable.limit
  limit_is = sym r.at.limit ∙ honest_stays.limit g.feed g.before g.placing g.made _ rooted

  placed : placing_for store.root g.before.durable (shelved_of g.placing) ≡ g.placing
  placed = ap (λ (q : Root). placing_for q g.before.durable (shelved_of g.placing)) (sym r.at.root) ∙ (shelf_laws.stands g.before.durable g.placing _ rooted.honest.placed).1

  -- how often an extent is live, by the parts
  extents_count : (x : Extent) → count x (extents_of g.placing) ≡ same x (root_extent store.root) + count x (shelf_extents (shelved_of g.placing))
  extents_count x = ap (λ (l : Placing). count x (extents_of l)) (sym placed) ∙ shelves.placed x store.root g.before.durable (shelved_of g.placing)

  taken_count : (x : Extent) → count x store.space.taken ≡ count x (extents_of g.placing) + (count x (pieces_of g.added) + count x g.made_after)
  taken_count x =
      omega (
        arith,
        sum_by-IsPermutation (same x) (extents_of g.placing ++ (g.made ++ g.fresh)) store.space.taken r.at.taken,
        sum_by-append (same x) (extents_of g.placing) (g.made ++ g.fresh),
        sum_by-IsPermutation (same x) (g.made ++ g.fresh) (pieces_of g.added ++ g.made_after) r.pieces,
        sum_by-append (same x) (pieces_of g.added) g.made_after,
      )

  -- nothing was written, and the store is as it was
  nothing_done : (e : CommitRefusal) → store.broken ≡ false → HasCommitted (v.state old) (v.state old) store store.root false g (Err e)
  nothing_done e whole = record {
    any_moment = begins v old (IsRootedOnEither g.feed g.before g.placing g.made g.after (placing_behind store.root g) g.made_after) (λ c left. inl (r.stands c left));
    acknowledged = tt;
    refused = λ _. (begins v old (IsRooted g.feed g.before g.placing g.made) r.stands, r.at);
    broken = λ is. absurd (false≢true (sym whole ∙ is));
  }

  module _ (after : Extents) (e : Extent) (bytes : List ℕ) (takes : TakesGap store.space after (length bytes) e) where
    taken_as : IsPermutation ((extents_of g.placing ++ pieces_behind g.added e) ++ g.made_after) after.taken
    taken_as = from_counts ((extents_of g.placing ++ pieces_behind g.added e) ++ g.made_after) after.taken (λ x.
        omega (
          arith,
          took e store.space after takes.taken x,
          taken_count x,
          sum_by-append (same x) (extents_of g.placing ++ pieces_behind g.added e) g.made_after,
          sum_by-append (same x) (extents_of g.placing) (pieces_behind g.added e),
          behind x g.added e,
        ))

    -- what the job had made stands first
    made_first : IsPermutation (g.made ++ (extents_of g.placing ++ (g.fresh ++ e ∷ []))) after.taken
    made_first = from_counts (g.made ++ (extents_of g.placing ++ (g.fresh ++ e ∷ []))) after.taken (λ x.
        omega (
          arith,
          took e store.space after takes.taken x,
          sum_by-IsPermutation (same x) (extents_of g.placing ++ (g.made ++ g.fresh)) store.space.taken r.at.taken,
          sum_by-append (same x) (extents_of g.placing) (g.made ++ g.fresh),
          sum_by-append (same x) g.made g.fresh,
          sum_by-append (same x) g.made (extents_of g.placing ++ (g.fresh ++ e ∷ [])),
          sum_by-append (same x) (extents_of g.placing) (g.fresh ++ e ∷ []),
          sum_by-append (same x) g.fresh (e ∷ []),
          sum_by-cons (same x) e [],
        ))

    apart_so : (xs : List Extent) → IsPermutation xs after.taken → IsTrue (are_apart g.before.durable.limit xs)
    apart_so xs p = subst (λ n. IsTrue (are_apart n xs)) (takes.taken.limit ∙ limit_is) (apart_permuted after.limit after.taken xs (IsPermutation-sym xs after.taken p) takes.apart)

    -- the manifest may be written to the gap that was taken
    writing : bytes ≡ manifest_bytes m → IsWriting (v.state old) store.root e bytes g
    writing spelled = record {
      tells = r.tells;
      stands = r.stands;
      root_is = r.at.root;
      on = r.on;
      pieces = r.pieces;
      written = r.written;
      size = takes.lowest.size;
      apart = apart_so ((extents_of g.placing ++ pieces_behind g.added e) ++ g.made_after) taken_as;
      made_apart = apart_laws.front g.before.durable.limit g.made (extents_of g.placing ++ (g.fresh ++ e ∷ [])) (apart_so (g.made ++ (extents_of g.placing ++ (g.fresh ++ e ∷ []))) made_first);
      gap = subst (λ n. IsTrue (is_gap n (extents_of g.placing ++ (g.made ++ g.fresh)) e)) limit_is
          (room_laws.gap store.space.limit store.space.taken (extents_of g.placing ++ (g.made ++ g.fresh)) e (IsPermutation-sym (extents_of g.placing ++ (g.made ++ g.fresh)) store.space.taken r.at.taken) takes.lowest.free);
      manifest = spelled ∙ ap manifest_bytes r.manifest;
    }

    module _ (new : D) (s' : Store) where
      -- the former manifest's extent was given back, and what leaves
      module _ (given : Extents) (gives : Takes (root_extent store.root) given after) (final : (rest : List Extent) → IsPermutation (leaving ++ rest) given.taken → IsPermutation rest s'.space.taken) where
        left : IsPermutation (leaving ++ (extents_of (placing_behind (next_root store.root e.place e.length) g) ++ g.made_after)) given.taken
        left = from_counts (leaving ++ (extents_of (placing_behind (next_root store.root e.place e.length) g) ++ g.made_after)) given.taken (λ x.
            let here : same x (root_extent (next_root store.root e.place e.length)) ≡ same x e = refl in
            omega (
              arith,
              here,
              sum_by-append (same x) leaving (extents_of (placing_behind (next_root store.root e.place e.length) g) ++ g.made_after),
              sum_by-append (same x) (extents_of (placing_behind (next_root store.root e.place e.length) g)) g.made_after,
              shelves.placed x (next_root store.root e.place e.length) g.after.durable (kept_behind g),
              joined x (those g.stays g.placing) g.added,
              parted x g.stays (shelved_of g.placing),
              sum_by-IsPermutation (same x) (leaving_of g) leaving r.leaves,
              extents_count x,
              taken_count x,
              took e store.space after takes.taken x,
              took (root_extent store.root) given after gives x,
            ))

        stands_after : s'.root ≡ next_root store.root e.place e.length → s'.space.limit ≡ store.space.limit → StandsAt s' (placing_behind (next_root store.root e.place e.length) g) g.made_after
        stands_after root limit = record {
          root = sym root;
          limit = r.on.limit ∙ sym limit_is ∙ sym limit;
          taken = final (extents_of (placing_behind (next_root store.root e.place e.length) g) ++ g.made_after) left;
        }

        done : (side : Bool) → Replaced (v.state old) (v.state new) (next_root store.root e.place e.length) side g (Ok tt) → s'.root ≡ next_root store.root e.place e.length → s'.space.limit ≡ store.space.limit → s'.broken ≡ false
            → HasCommitted (v.state old) (v.state new) s' (next_root store.root e.place e.length) side g (Ok tt)
        done side rep root limit whole = record {
          any_moment = rep.any_moment;
          acknowledged = (rep.acknowledged, stands_after root limit);
          refused = tt;
          broken = λ is. absurd (false≢true (sym whole ∙ is));
        }

      -- a fault in a read
      kept : (side : Bool) → Replaced (v.state old) (v.state new) (next_root store.root e.place e.length) side g (Err faults.Read) → StaysStore store s' → store.broken ≡ false
          → HasCommitted (v.state old) (v.state new) s' (next_root store.root e.place e.length) side g (Err refusals.Disk)
      kept side rep same_store whole = record {
        any_moment = rep.any_moment;
        acknowledged = tt;
        refused = λ _. (
          rep.unwritten refl,
          as_it_stood store s' g.placing (g.made ++ g.fresh) r.at same_store.root same_store.space,
        );
        broken = λ is. absurd (false≢true (sym whole ∙ sym same_store.broken ∙ is));
      }

      -- a fault in a write or a sync
      broken : (side : Bool) → Replaced (v.state old) (v.state new) (next_root store.root e.place e.length) side g (Err faults.Write) → s'.broken ≡ true
          → HasCommitted (v.state old) (v.state new) s' (next_root store.root e.place e.length) side g (Err refusals.Disk)
      broken side rep is = record {
        any_moment = rep.any_moment;
        acknowledged = tt;
        refused = λ whole. absurd (false≢true (sym whole ∙ is));
        broken = λ _. rep.broken;
      }

-- for each session that stood on the images
module _ {D : Type 0} (v : Device D) (old : D) (store : Store) (m : Manifest) (leaving : List Extent) where
  pub leads_nowhere : (e : CommitRefusal) → store.broken ≡ false → LeadsTo (v.state old) (v.state old) store store m leaving (Err e)
  leads_nowhere e whole = record {
    root = store.root;
    placed = false;
    counts = tt;
    each = λ g ready. nothing_done v old store m leaving g ready e whole;
  }

  module _ (after : Extents) (e : Extent) (bytes : List ℕ) (takes : TakesGap store.space after (length bytes) e) (spelled : bytes ≡ manifest_bytes m) (new : D) (s' : Store) where
    pub leads_on : (given : Extents) → Takes (root_extent store.root) given after → ((rest : List Extent) → IsPermutation (leaving ++ rest) given.taken → IsPermutation rest s'.space.taken)
        → Replaces (v.state old) (v.state new) store.root e bytes (Ok tt) → s'.root ≡ next_root store.root e.place e.length → s'.space.limit ≡ store.space.limit → s'.broken ≡ false → LeadsTo (v.state old) (v.state new) store s' m leaving (Ok tt)
    leads_on given gives final rep root limit whole = record {
      root = next_root store.root e.place e.length;
      placed = rep.placed;
      counts = root;
      each = λ g ready.
          done v old store m leaving g ready after e bytes takes new s' given gives final rep.placed (rep.each g (writing v old store m leaving g ready after e bytes takes spelled)) root limit whole;
    }

    pub leads_back : Replaces (v.state old) (v.state new) store.root e bytes (Err faults.Read) → StaysStore store s' → store.broken ≡ false → LeadsTo (v.state old) (v.state new) store s' m leaving (Err refusals.Disk)
    leads_back rep same_store whole = record {
      root = next_root store.root e.place e.length;
      placed = rep.placed;
      counts = tt;
      each = λ g ready.
          kept v old store m leaving g ready after e bytes takes new s' rep.placed (rep.each g (writing v old store m leaving g ready after e bytes takes spelled)) same_store whole;
    }

    pub leads_off : Replaces (v.state old) (v.state new) store.root e bytes (Err faults.Write) → s'.broken ≡ true → LeadsTo (v.state old) (v.state new) store s' m leaving (Err refusals.Disk)
    leads_off rep is = record {
      root = next_root store.root e.place e.length;
      placed = rep.placed;
      counts = tt;
      each = λ g ready.
          broken v old store m leaving g ready after e bytes takes new s' rep.placed (rep.each g (writing v old store m leaving g ready after e bytes takes spelled)) is;
    }
