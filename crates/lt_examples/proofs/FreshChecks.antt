-- The relations have members: a fresh store as bytes, the front of a stream with a header alone, and a command's answer there.
use Rattle.std.proofs.Common.{List, [], arith, false, inl, refl, subst, sym, take, true, zero, ℕ, ◌++◌, ◌∷◌, ◌≡◌}
use Rattle.std.specs.Prelude.{Contains, None, Some, codes, replicate, ⊤}
use mathlib.Core.Bool.{true≢false}
use Rattle.std.specs.Str.{chars, is_utf8}
use lib.Utf8.{encode}
use Rattle.serde_json.proofs.OnLiterals.{serde_json_on_literals}
use Rattle.lt_terms.specs.Log.{Item, header_item, spelled}
use Rattle.lt_world.specs.Slots.{slot_body}
use Rattle.lt_world.specs.Feed.{Feed}
use Rattle.lt_world.specs.Disk.{DiskState}
use Rattle.lt_tables.specs.Fair.{breaks, point_of}
use Rattle.lt_tables.specs.Schema.{Catalogue, nothing_yet}
use Rattle.lt_tables.specs.Query.{do_status}
use Rattle.lt_tables.specs.Version.{merge}
use Rattle.lt_words.specs.Script.{line_of, number_word}
use Rattle.lt_storage.specs.Store.{Holds, HoldsAt, Manifest, Placing, are_within, bare_manifest, extents_of, manifest_bytes}
use Rattle.lt_machine.specs.Machine.{State, fresh, opened, refused, replies, status_of}
use Rattle.lt_machine.specs.Sound.{Fronts, IsGood, IsSound, Session}
use Rattle.lt_machine.specs.Run.{Answers, Counts, Moment, Runs, answer_text}
use Rattle.lt_machine.specs.Outside.{AreBesides, IsHonest, LeavesSession, MemoryAbove, StandsOn}
use Rattle.lt_machine.specs.Program.{Endures, rules_of}
use Rattle.lt_machine.specs.OverStore.{on_store, over_store}
use Rattle.lt_machine.specs.Step.{Serves}
use Rattle.lt_examples.specs.Examples.{head}

abbrev manifest : Manifest
manifest = bare_manifest (fresh 1048576 (head ∷ []))

-- slot 0 open, slot 1 zeros, and the manifest at place 1024
abbrev image : List ℕ
image = slot_body 1 1024 61 ++ 165 ∷ (replicate 512 0 ++ manifest_bytes manifest)

computes : Unit {0}
unfolding manifest_bytes spelled breaks refused
computes = tt

abbrev placing : Placing
placing = record { root = record { generation = 1; place = 1024; length = 61; slot = 0 }; manifest = manifest; indexes = [] }

fresh_at : HoldsAt image (fresh 1048576 (head ∷ [])) placing
unfolding computes
fresh_at = record {
  root = record { is_slot = record { open_now = refl; lawful = refl; spells = refl }; which = omega arith; greater = λ h. let e : false ≡ true = h in absurd (true≢false (sym e)) };
  manifest = record { lawful = record { limit = refl; numbers = refl; catalogue = nothing_yet; streams = refl; parts = refl; deltas = refl }; spells = refl };
  deltas = tt;
  extents = refl;
  durable = refl;
}

fresh_store : Holds image (fresh 1048576 (head ∷ []))
fresh_store = (placing, fresh_at)

abbrev feed : Feed
feed = spelled (header_item head) ∷ []

no_item : (i : Item) (more : List ℕ) → [] ≡ spelled i ++ more → ⊥
unfolding spelled
no_item i more e = cc

header_alone : (cat : Catalogue) → Fronts feed cat ((head, []) ∷ [])
unfolding computes
header_alone cat = record {
  all = refl;
  each = (
    record { number = refl; lawful = refl; rest = []; spells = refl },
    refl,
    record { lawful = tt; fair = refl; successors = tt; rest = []; spells = refl; longest = λ i more lawful e stands b. no_item i more e },
    tt,
  );
  tiling = (refl, refl);
}

abbrev opened_fresh : State
opened_fresh = opened (fresh 1048576 (head ∷ [])) (head ∷ [])

status_answered : Answers (λ r. ⊤) feed opened_fresh do_status (replies (status_of opened_fresh)) opened_fresh
unfolding computes
status_answered = ((head, []) ∷ [], header_alone [], inl (refl, refl))

none_within : {A : Type 0} (x : A) → Contains [] x → ⊥
none_within x c = absurd (omega (arith, c.1))

-- a fresh store is sound, and a session that opens it belongs to the feed
fresh_is_good : IsGood feed opened_fresh ((head, []) ∷ [])
unfolding computes merge point_of
fresh_is_good = record {
  short = (omega arith, tt);
  lawful = record { generation = refl; manifest = record { limit = refl; numbers = refl; catalogue = nothing_yet; streams = refl; parts = refl; deltas = refl }; shelf = tt };
  fronts = header_alone [];
  sound = record {
    parts = (
      record {
        only_changes = λ table v c above. absurd (none_within v c);
        all_changes = λ c has inside above upto. absurd (none_within c has);
        rows = λ t key known inside has. refl;
        agree = λ x y table v w cx cy cv cw same. absurd (none_within x cx);
        minimum = omega arith;
        resume = ((λ m. omega arith), tt);
      },
      tt,
    );
    points = (refl, tt, tt);
  };
  ready = record {
    places = (refl, (0, omega arith, refl, refl, refl), tt);
    pending = (record { are_changes = λ n c. absurd (none_within n c); none_lost = λ c has inside above. absurd (none_within c has); ordered = refl }, tt);
    job = tt;
  };
}

-- the image is sound and honest; one that lacks its last byte is not within its file
fresh_is_sound : IsSound image feed
unfolding computes
fresh_is_sound = record { durable = fresh 1048576 (head ∷ []); placing = placing; holds = fresh_at; within = refl; fronts = (head, []) ∷ []; are_fronts = header_alone []; sound = fresh_is_good.sound }

shorter_is_not : are_within (take 1084 image) (extents_of placing) ≡ false
unfolding computes
shorter_is_not = refl

-- the session that opens it, which holds nothing
abbrev session : Session
session = record { state = opened_fresh; memory = [] ∷ []; placing = placing; failed = None; made = []; cached = [] }

fresh_is_honest : IsHonest feed session image
unfolding computes
fresh_is_honest = record { part = inl fresh_store; sound = fresh_is_sound; placed = record { manifest = fresh_at.manifest; deltas = tt; durable = refl }; failed = tt; job = refl; within = refl }

fresh_stands : StandsOn feed session image
unfolding computes
fresh_stands = record { root = λ _. (fresh_at.root, omega arith); honest = fresh_is_honest }

nothing_besides : AreBesides session
unfolding computes
nothing_besides = record { of_failed = tt; of_job = refl; apart = refl }

memory_above : MemoryAbove opened_fresh ([] ∷ [])
memory_above = (tt, tt)

-- a run over one line
abbrev none_failed : Counts
none_failed = record { feed = 0; calls = 0; script = 0; disk = 0; write_faults = 0; out = 0; clock = 0 }

abbrev begun : Moment
begun = record { feed = feed; counts = none_failed; text = []; session = session }

abbrev after_status : Moment
after_status = record { feed = feed; counts = none_failed; text = answer_text opened_fresh do_status (replies (status_of opened_fresh)); session = session }

lines_compute : Unit {0}
unfolding computes is_utf8 chars encode number_word line_of serde_json_on_literals
lines_compute = tt

run_of_status : Runs (rules_of over_store) begun (codes "status" ∷ []) (after_status ∷ [])
unfolding lines_compute
run_of_status = (
  record {
    grows = (([], refl), tt);
    runs = record {
      answer = replies (status_of opened_fresh);
      text = refl;
      answers = ((head, []) ∷ [], header_alone [], inl (refl, refl));
      shows = record {
        later = record { feed = omega arith; calls = omega arith; script = omega arith; disk = omega arith; write_faults = omega arith; out = omega arith; clock = omega arith };
        succeeded = (refl, refl, refl, refl);
        feed_failed = λ w. absurd (omega (arith, w));
        write_failed = λ w. absurd (omega (arith, w));
        disk_failed = λ n w. absurd (omega (arith, w));
        out_failed = λ w. absurd (omega (arith, w));
        called = λ c. absurd (true≢false (sym c));
        not_called = λ _. refl;
        not_used = λ c. absurd (true≢false c);
        breaks = λ b c. absurd (true≢false (sym c));
      };
      goes_on = λ e. cc;
    };
  },
  tt,
)

-- a disk that tells the image, and leaves nothing else
abbrev only_image : DiskState
only_image = record { told = Some image; faults = 0; write_faults = 0; reads = 0; clock = 0; leaves = λ c. c ≡ image; left_since = λ t c. c ≡ image }

-- the session serves the feed from there
fresh_serves : Serves on_store only_image feed session
unfolding computes
fresh_serves = record {
  belongs = ((head, []) ∷ [], fresh_is_good, refl, (tt, tt));
  kept = record { names = refl; above = (tt, tt); job = tt };
  failed = (tt, tt);
  rests = record { told = refl; besides = nothing_besides; stands = λ c e. subst (StandsOn feed session) (sym e) fresh_stands; cached = λ c e. tt };
  stands = λ c e. subst (LeavesSession feed session) (sym e) (fresh_is_sound, inl fresh_store);
}

-- over the run of that line each image, at each moment, is the one of the session
status_endures : Endures on_store only_image only_image feed (record { taken = codes "status"; written = after_status.text; opening = Some begun; moments = after_status ∷ [] })
unfolding computes
status_endures = record {
  any_moment = record { later = omega arith; each = λ c e. inl e; before = λ t c l e. inl e };
  answered = (
    (λ c e. (begun, (zero, omega arith, refl), subst (LeavesSession feed session) (sym e) (fresh_is_sound, inl fresh_store))),
    (nothing_besides, (image, refl, fresh_stands)),
    ((λ c e. (after_status, (zero, omega arith, refl), subst (LeavesSession feed session) (sym e) (fresh_is_sound, inl fresh_store))), (nothing_besides, (image, refl, fresh_stands)), tt),
  );
  on_return = λ c e. subst (LeavesSession feed session) (sym e) (fresh_is_sound, inl fresh_store);
}
