-- A replica that begins: nothing is registered, one partition holds nothing, and each stream stands behind its header.
use Rattle.std.proofs.Common.{List, [], ap, ap₂, arith, length, refl, subst, sym, ◌∙◌, ◌∷◌, ◌≡◌, ◌≤◌}
use Rattle.std.specs.Prelude.{IfSome, IsTrue, None, Option, Some, map, zip, ◌^◌}
use Rattle.std.specs.List.{AllByRecursion}
use Rattle.lt_world.specs.Disk.{DiskState}
use Rattle.lt_world.specs.Feed.{AreShort, Feed}
use Rattle.lt_machine.specs.InMemory.{BeginsFresh, on_memory, session_over}
use Rattle.lt_terms.specs.Key.{Range}
use Rattle.lt_terms.specs.Log.{Header}
use Rattle.lt_tables.specs.Pump.{StreamAt, behind_header}
use Rattle.lt_machine.specs.Machine.{Job, State, ranges_of, start_of}
use Rattle.lt_world.specs.Feed.{FeedState}
use Rattle.lt_tables.specs.Pump.{name_of}
use Rattle.lt_machine.specs.Outside.{AreAbove, BelongsTo, IsKept, MemoryAbove}
use Rattle.lt_machine.specs.Sound.{Memory}
use Rattle.lt_tables.specs.Pump.{Attaches}
use Rattle.lt_tables.specs.Schema.{Catalogue}
use Rattle.lt_machine.specs.Sound.{HasPart, IsSoundFor, Session}
use Rattle.lt_machine.specs.Step.{NotStarted, Serves, Started}
use Rattle.lt_tables.specs.Pump.{Part}
use Rattle.lt_storage.specs.Store.{Durable, Placing, Stream}
use Rattle.lt_parts.specs.declared.entry.PartEntry.{PartEntry}
use Rattle.lt_pump.specs.Pumps.{AttachRefused, HasAttached, streams_of}
use Rattle.lt_pump.specs.declared.refusal.AttachRefusal.{AttachRefusal}
use Rattle.lt_pump.specs.declared.refusal.AttachRefusal.TheVariants as attach
use Rattle.lt_steps.proofs.BeginsLaws.{memory_begins}
use Rattle.lt_engine.specs.Behind.{are_behind}
use Rattle.lt_engine.specs.State.{IsFed, StandsFor, memory_of, part_of_entry, start_refusal, state_of, state_with, view_start}
use Rattle.lt_engine.specs.declared.refusal.StartRefusal.TheVariants as start
use Rattle.lt_engine.specs.declared.replica.Replica.{Replica}

abbrev whole : List Part
whole = record { low = []; resume = 0; ids = [] } ∷ []

abbrev entry : Header → Stream
entry h = record { low = h.range.low; points = [] }

abbrev low_entry : StreamAt → Stream
low_entry a = record { low = a.header.range.low; points = [] }

opened_behind : (ps : List Part) (hs : List Header) → map (λ (x : Header × Stream). start_of ps x.0 x.1.points) (zip hs (map entry hs)) ≡ map behind_header hs
opened_behind ps [] = refl
opened_behind ps (h ∷ hs) = ap (λ (ss : List StreamAt). behind_header h ∷ ss) (opened_behind ps hs)

lows_behind : (hs : List Header) → map low_entry (map behind_header hs) ≡ map entry hs
lows_behind [] = refl
lows_behind (h ∷ hs) = ap (λ (xs : List Stream). entry h ∷ xs) (lows_behind hs)

abbrev session_of : List Part → List Stream → List StreamAt → State
session_of ps xs ss = record {
  durable = record { limit = 2 ^ 20; generation = 1; catalogue = []; minimum = 0; next_id = 0; parts = ps; streams = xs; shelf = [] };
  streams = ss;
  pending = [] ∷ [];
  job = None;
  broken = None;
}

begins : (es : List PartEntry) (ss : List StreamAt) (hs : List Header) → map part_of_entry es ≡ whole → ss ≡ map behind_header hs → state_with [] 1 es ss ([] ∷ []) ≡ session_over hs
begins es ss hs p s =
    ap (λ (ps : List Part). session_of ps (map low_entry ss) ss) p
    ∙ ap (λ (xs : List StreamAt). session_of whole (map low_entry xs) xs) s
    ∙ ap (λ (xs : List Stream). session_of whole xs (map behind_header hs)) (lows_behind hs)
    ∙ ap (session_of whole (map entry hs)) (sym (opened_behind whole hs))

begins_with : (cat : Catalogue) (es : List PartEntry) (ss : List StreamAt) (mem : Memory) (hs : List Header) → cat ≡ [] → mem ≡ [] ∷ [] → map part_of_entry es ≡ whole → ss ≡ map behind_header hs → state_with cat 1 es ss mem ≡ session_over hs
begins_with cat es ss mem hs none empty p s = ap₂ (λ (c : Catalogue) (m : Memory). state_with c 1 es ss m) none empty ∙ begins es ss hs p s

-- the session that a replica begins as; where its parts stand on a disk is free
nowhere : Placing
nowhere = record {
  root = record { generation = 0; place = 0; length = 0; slot = 0 };
  manifest = record { limit = 0; minimum = 0; next_id = 0; catalogue = []; streams = []; parts = []; deltas = [] };
  indexes = [];
}

abbrev session : State → Memory → Session
session s mem = record { state = s; memory = mem; placing = nowhere; failed = None; made = []; cached = [] }

attached : (told : Option Feed) (ss : List StreamAt) → (a : HasAttached told None ss) → IfSome told (λ f. Attaches f None a.headers)
attached None ss a = tt
attached (Some f) ss a = a.attaches

begins_fresh : (told : Option Feed) (cat : Catalogue) (es : List PartEntry) (ss : List StreamAt) (mem : Memory) → cat ≡ [] → mem ≡ [] ∷ [] → map part_of_entry es ≡ whole → HasAttached told None ss → BeginsFresh told (session (state_with cat 1 es ss mem) mem)
begins_fresh told cat es ss mem none empty p a = record { headers = a.headers; attaches = attached told ss a; state = begins_with cat es ss mem a.headers none empty p a.behind; memory = empty }

start_belongs : (told : Option Feed) (cat : Catalogue) (es : List PartEntry) (ss : List StreamAt) (mem : Memory) → cat ≡ [] → mem ≡ [] ∷ [] → IfSome told AreShort → map part_of_entry es ≡ whole → HasAttached told None ss
    → IfSome told (λ f. BelongsTo f (state_with cat 1 es ss mem) mem)
start_belongs None cat es ss mem none empty short p a = tt
start_belongs (Some f) cat es ss mem none empty short p a =
    subst (λ (s : State). BelongsTo f s mem) (sym (begins_with cat es ss mem a.headers none empty p a.behind))
    (subst (BelongsTo f (session_over a.headers)) (sym empty) (memory_begins f (2 ^ 20) a.headers refl short a.attaches))

empty_above : (ps : List Part) (rs : List Range) → AllByRecursion (λ x. AreAbove x.0.1 x.0.0 x.1) (zip (zip ps rs) ([] ∷ []))
empty_above [] rs = tt
empty_above (p ∷ ps) [] = tt
empty_above (p ∷ []) (r ∷ rs) = (tt, tt)
empty_above (p ∷ q ∷ ps) (r ∷ []) = (tt, tt)
empty_above (p ∷ q ∷ ps) (r ∷ t ∷ rs) = (tt, tt)

kept : (s : State) (mem : Memory) → mem ≡ [] ∷ [] → s.pending ≡ map (map name_of) mem → s.job ≡ None → IsKept (session s mem)
kept s mem empty names job = record {
  names = sym names;
  above = subst (MemoryAbove s) (sym empty) (empty_above s.durable.parts (ranges_of s.durable));
  job = subst (λ (o : Option Job). IfSome o (HasPart s.durable)) (sym job) tt;
}

serves : (told : Option Feed) (disk : DiskState) (x : Session) → x.state.broken ≡ None → IfSome told (λ f. BelongsTo f x.state x.memory) → IsKept x → IfSome told (λ f. on_memory.sound disk f → Serves on_memory disk f x)
serves None disk x unbroken b k = tt
serves (Some f) disk x unbroken b k = λ sound. record {
  belongs = b;
  kept = k;
  failed = (subst (λ (o : Option Durable). IfSome o (IsSoundFor f)) (sym unbroken) tt, subst (λ (o : Option Durable). IfSome o (λ d. x.state.durable.minimum ≤ d.minimum)) (sym unbroken) tt);
  rests = tt;
  stands = λ image left. tt;
}

-- a replica began whose state is so
pub has_started : (disk : DiskState) (feed feed' : FeedState) (r : Replica) (cat : Catalogue) (es : List PartEntry) (ss : List StreamAt) (mem : Memory) → state_of r ≡ state_with cat 1 es ss mem → memory_of r ≡ mem → length (streams_of r.pump) ≤ feed'.known
    → cat ≡ [] → mem ≡ [] ∷ [] → map part_of_entry es ≡ whole → feed'.faults ≡ feed.faults → IfSome feed'.told AreShort → HasAttached feed'.told None ss → (x : Session) × StandsFor r x × IsFed r feed' × Started on_memory disk disk feed feed' x
has_started disk feed feed' r cat es ss mem is held known none empty p same short a =
    let s = state_with cat 1 es ss mem in
    let k = kept s mem empty refl refl in (
      session s mem,
      record { memory = sym held; state = sym is },
      known,
      record {
        opens = begins_fresh feed'.told cat es ss mem none empty p a;
        kept = k;
        serves = serves feed'.told disk (session s mem) refl (start_belongs feed'.told cat es ss mem none empty short p a) k;
        unfailed = (same, refl, refl);
      },
    )

-- none began: the feed failed, or its headers do not fit, or memory ran out
pub not_attached : (disk : DiskState) (feed feed' : FeedState) (e : AttachRefusal) → AttachRefused feed'.told None feed.faults feed'.faults e → NotStarted on_memory disk disk feed feed' (view_start (start_refusal e))
not_attached disk feed feed' (attach.Mismatch n) h = record { cause = h.1; feed_failed = λ less. let same = h.0 in absurd (omega (arith, same, less)); disk_failed = λ less. absurd (omega (arith, less)) }
not_attached disk feed feed' attach.Feed h = record { cause = h; feed_failed = λ less. refl; disk_failed = λ less. absurd (omega (arith, less)) }
not_attached disk feed feed' attach.Memory h = record { cause = tt; feed_failed = λ less. absurd (omega (arith, h, less)); disk_failed = λ less. absurd (omega (arith, less)) }

pub out_of_memory : (disk : DiskState) (feed feed' : FeedState) → feed'.faults ≡ feed.faults → NotStarted on_memory disk disk feed feed' (view_start start.Memory)
out_of_memory disk feed feed' same = record { cause = tt; feed_failed = λ less. absurd (omega (arith, same, less)); disk_failed = λ less. absurd (omega (arith, less)) }

-- ---- what a replica keeps

pub none_behind : (ss : List StreamAt) (mem : Memory) → mem ≡ [] ∷ [] → IsTrue (are_behind ss mem)
none_behind ss mem empty = subst (λ (m : Memory). IsTrue (are_behind ss m)) (sym empty) (by ss)
  where
    by : (ss : List StreamAt) → IsTrue (are_behind ss ([] ∷ []))
    by [] = refl
    by (a ∷ ss) = by ss

pub one_part : (es : List PartEntry) → map part_of_entry es ≡ whole → 1 ≡ length es
one_part [] e = cc
one_part (x ∷ []) e = refl
one_part (x ∷ y ∷ es) e = cc
