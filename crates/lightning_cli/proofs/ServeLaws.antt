-- How a run of a script goes on, and how it ends.
use Rattle.std.proofs.lemmas.List.{length-append, take_at}
use Rattle.std.proofs.Common.{◌≡◌, ℕ, ◌+◌, ◌<◌, ◌≤◌, List, [], ◌∷◌, ◌++◌, length, take, refl, sym, ap, ◌∙◌, subst, arith, append_assoc, append-nil, ap₂, inl, inr}
use Rattle.std.specs.Prelude.{Some, ◌⊎◌}
use Rattle.std.specs.Io.KnownBytes.{Appends, Consumes, IsAtEnd, Keeps}
use Rattle.lt_world.specs.Disk.{DiskState, Rose}
use Rattle.lt_world.specs.Feed.{Grows}
use Rattle.lt_world.specs.Object.{BytesGo, BytesState, StaysTold}
use Rattle.lt_world.specs.Feed.{FeedGoes, FeedState}
use Rattle.lt_world.specs.Object.{IsFront}
use Rattle.lt_machine.specs.Program.{IsCut, Outside, RunEnds, Tells, Told, Trace, all_answered, counts_of, ended_early, in_last_line, in_replies, in_script_fault, in_too_long, outside_of, script_failed, script_too_long}
use Rattle.lt_machine.specs.Run.{AreLater, Counts, IsOver, Moment, Runs, last_moment, lines_ended, max_script, run_text, script_fault_text, too_long_text}
use Rattle.lt_words.specs.Script.{script_lines}
use Rattle.lt_lemmas.proofs.FrontLaws.{grows_itself}
use Rattle.lt_engine.specs.declared.replica.Replica.{Replica}
use Rattle.lightning_cli.specs.Commands.{IsNow, StandsIn, run_rules}
use Rattle.lightning_cli.specs.Serving.{Finishes, HasRun, HasRunSome, HasRunTo, HasServed, IsServing, Stands, open_line}
use Rattle.lightning_cli.specs.declared.server.Server.{Server}
use Rattle.lightning_cli.proofs.FeedLaws.{told_on}
use Rattle.lightning_cli.proofs.OutLaws.{appended, at_its_end, consumed, kept_same, told_same, wrote_more}
use Rattle.lightning_cli.proofs.PieceLaws.{all_lines}
use Rattle.lightning_cli.proofs.RunLaws.{front_then}

abbrev trace_of : Moment → List ℕ → List ℕ → List Moment → Trace
trace_of m taken written ms = record { taken = taken; written = written; opening = Some m; moments = ms }

-- ---- a run that is over

-- behind the last moment nothing was called
run_over : (m : Moment) (ms : List Moment) (w : Outside) (t : Told) (status : ℕ) → IsNow w.disk w.feed m (last_moment m ms) → Tells w t → m.counts.script ≤ w.script.faults → m.counts.out ≤ w.out.faults → IsOver (last_moment m ms) status t.feed t.counts
run_over m ms w t status now tells script out =
    let last = last_moment m ms in
    let here : last.counts ≡ record (counts_of w) { script = m.counts.script; out = m.counts.out } = now.counts in
    let later : AreLater (record (counts_of w) { script = m.counts.script; out = m.counts.out }) (counts_of w)
    = record { feed = omega arith; calls = omega arith; script = script; disk = omega arith; write_faults = omega arith; out = out; clock = omega arith } in
    record {
      grows = subst (λ f. Grows last.feed f) (told_same w.feed.told t.feed last.feed tells.feed now.feed) (grows_itself last.feed);
      later = subst (λ k. AreLater last.counts k) tells.counts (subst (λ k. AreLater k (counts_of w)) (sym here) later);
      feed = sym (ap (λ (k : Counts). k.feed) tells.counts) ∙ sym (ap (λ (k : Counts). k.feed) here);
      calls = sym (ap (λ (k : Counts). k.calls) tells.counts) ∙ sym (ap (λ (k : Counts). k.calls) here);
      write_faults = sym (ap (λ (k : Counts). k.write_faults) tells.counts) ∙ sym (ap (λ (k : Counts). k.write_faults) here);
      disk = λ other. record {
        disk = sym (ap (λ (k : Counts). k.disk) tells.counts) ∙ sym (ap (λ (k : Counts). k.disk) here);
        write_faults = sym (ap (λ (k : Counts). k.write_faults) tells.counts) ∙ sym (ap (λ (k : Counts). k.write_faults) here);
        clock = sym (ap (λ (k : Counts). k.clock) tells.counts) ∙ sym (ap (λ (k : Counts). k.clock) here);
      };
    }

served : (m : Moment) (old t : Told) (w : Outside) (taken written : List ℕ) (ms : List Moment) (status : ℕ) → Tells w t → old.script ≡ taken ++ t.script → t.written ≡ old.written ++ written
    → IsNow w.disk w.feed m (last_moment m ms) → m.counts.script ≤ w.script.faults → m.counts.out ≤ w.out.faults → RunEnds run_rules m t.counts old.script (trace_of m taken written ms) status → HasServed m old w status
served m old t w taken written ms status tells took wrote now script out ends = record {
  now = t;
  tells = tells;
  trace = trace_of m taken written ms;
  opening = refl;
  took = took;
  wrote = wrote;
  ends = ends;
  over = run_over m ms w t status now tells script out;
}

pub served_as : (m : Moment) (old : Told) (w : Outside) (status other : ℕ) → other ≡ status → HasServed m old w status → HasServed m old w other
served_as m old w status other e h = subst (λ n. HasServed m old w n) (sym e) h

-- what objects expose after calls that leave the script
told_after : (d d' : DiskState) (f f' : FeedState) (x o o' : BytesState) (t : Told) → Tells (outside_of d f x o) t → FeedGoes f f' → BytesGo o o' → (u : Told) × Tells (outside_of d' f' x o') u × (u.script ≡ t.script)
told_after d d' f f' x o o' t tells feed out =
    let g = told_on f.told f'.told t.feed feed.stays tells.feed in
    let h = told_on o.told o'.told t.written out.stays tells.written in
    (record { feed = g.0; script = t.script; written = h.0; counts = counts_of (outside_of d' f' x o') }, record { feed = g.1; script = tells.script; written = h.1; counts = refl }, refl)

-- A run that ends with a last line, or where the sink fails within it.
finished : (m : Moment) (old t : Told) (d : DiskState) (f : FeedState) (x o o' : BytesState) (taken written line : List ℕ) (ms : List Moment) (status result : ℕ) → Tells (outside_of d f x o) t → Finishes o o' line status result → BytesGo o o'
    → old.script ≡ taken ++ t.script → t.written ≡ old.written ++ written → IsNow d f m (last_moment m ms) → m.counts.script ≤ x.faults → m.counts.out ≤ o.faults
    → RunEnds run_rules m (counts_of (outside_of d f x o')) old.script (trace_of m taken (written ++ line) ms) status
    → ((front : List ℕ) → IsFront front line → RunEnds run_rules m (counts_of (outside_of d f x o')) old.script (trace_of m taken (written ++ front) ms) 4) → HasServed m old (outside_of d f x o') result
finished m old t d f x o o' taken written line ms status result tells finishes goes took wrote now script out whole part =
    let w : Outside = outside_of d f x o' in
    let h = told_on o.told o'.told t.written goes.stays tells.written in
    let u : Told = record { feed = t.feed; script = t.script; written = h.0; counts = counts_of w } in
    let tells' : Tells w u = record { feed = tells.feed; script = tells.script; written = h.1; counts = refl } in
    let more : m.counts.out ≤ o'.faults = omega (arith, out, goes.faults) in
    let on : (xs : List ℕ) → Appends o.told o'.told xs → u.written ≡ old.written ++ (written ++ xs) = λ xs a. wrote_more old.written t.written written h.0 xs xs wrote (appended o.told o'.told t.written h.0 xs tells.written h.1 a) refl in
    elim finishes [
      | inl a ↦ subst (λ n. HasServed m old w n) (sym a.0) (served m old u w taken (written ++ line) ms status tells' took (on line a.1) now script more whole)
      | inr a ↦ subst (λ n. HasServed m old w n) (sym a.0) (served m old u w taken (written ++ a.1.0) ms 4 tells' took (on a.1.0 a.1.2) now script more (part a.1.0 a.1.1))
    ]

-- ---- what is taken of a piece

regroup : (a b c d : List ℕ) → a ++ ((b ++ c) ++ d) ≡ (a ++ (b ++ c)) ++ d
regroup a b c d = sym (append_assoc a (b ++ c) d)

-- where some first lines of what was taken were answered, of which a last piece was only read
pub some_served : (m : Moment) (old : Told) (d d' : DiskState) (f f' : FeedState) (x o o' : BytesState) (count : ℕ) (bytes more : List ℕ) (server : Server) (status : ℕ) → IsCut status → count + length bytes ≤ max_script
    → (s : IsServing m old (outside_of d f x o) count (bytes ++ more) server) → FeedGoes f f' → BytesGo o o' → (p : List ℕ) → Appends o.told o'.told p → HasRunSome m (s.bytes ++ bytes) (s.written ++ p) d' f' → HasServed m old (outside_of d' f' x o') status
some_served m old d d' f f' x o o' count bytes more server status cut short s feed out p a h =
    let u = told_after d d' f f' x o o' s.now s.tells feed out in
    let took : old.script ≡ (s.bytes ++ (bytes ++ more)) ++ u.0.script = s.took ∙ regroup s.bytes bytes more s.now.script ∙ ap (λ z. (s.bytes ++ (bytes ++ more)) ++ z) (sym u.2) in
    let begins : IsFront h.part (s.bytes ++ (bytes ++ more)) = front_then h.part (s.bytes ++ bytes) (s.bytes ++ (bytes ++ more)) h.begins (more, sym (append_assoc s.bytes bytes more)) in
    let few : length h.part ≤ max_script = omega (arith, short, s.number, ap length h.begins.1, length-append h.part h.begins.0, length-append s.bytes bytes) in
    served m old u.0 (outside_of d' f' x o') (s.bytes ++ (bytes ++ more)) (s.written ++ p) h.run.moments status u.1 took
    (wrote_more old.written s.now.written s.written u.0.written p p s.wrote (appended o.told o'.told s.now.written u.0.written p s.tells.written u.1.written a) refl)
    h.run.now (omega (arith, s.script)) (omega (arith, s.out, out.faults))
    (ended_early cut (in_replies h.part begins few h.run.runs h.run.front))

-- a piece was taken whole
pub serving_on : (m : Moment) (old : Told) (d d' : DiskState) (f f' : FeedState) (x o o' : BytesState) (count n : ℕ) (piece : List ℕ) (server server' : Server) → n ≡ length piece → o'.faults ≡ o.faults
    → (s : IsServing m old (outside_of d f x o) count piece server) → FeedGoes f f' → BytesGo o o' → (p : List ℕ) → Appends o.told o'.told p → Stands m (s.bytes ++ piece) (s.written ++ p) d' f' server'
    → IsServing m old (outside_of d' f' x o') (count + n) [] server'
serving_on m old d d' f f' x o o' count n piece server server' all kept s feed out p a h =
    let u = told_after d d' f f' x o o' s.now s.tells feed out in
    record {
      now = u.0;
      tells = u.1;
      bytes = s.bytes ++ piece;
      written = s.written ++ p;
      number = omega (arith, all, s.number, length-append s.bytes piece);
      took = s.took ∙ sym (append_assoc s.bytes piece s.now.script) ∙ ap (λ z. (s.bytes ++ piece) ++ z) (sym u.2);
      wrote = wrote_more old.written s.now.written s.written u.0.written p p s.wrote (appended o.told o'.told s.now.written u.0.written p s.tells.written u.1.written a) refl;
      script = s.script;
      out = kept ∙ s.out;
      stands = h;
    }

-- ---- the end of the script

all_run : (m : Moment) (bytes script : List ℕ) (ms : List Moment) → script ≡ bytes → Runs run_rules m (lines_ended bytes ++ open_line bytes ∷ []) ms → Runs run_rules m (script_lines script) ms
all_run m bytes script ms e r = subst (λ ls. Runs run_rules m ls ms) (sym (all_lines bytes) ∙ ap script_lines (sym e)) r

few_bytes : (script bytes : List ℕ) (count : ℕ) → script ≡ bytes → length bytes ≡ count → count ≤ max_script → length script ≤ max_script
few_bytes script bytes count e n short = omega (arith, n, short, ap length e)

-- the run ends in the last line
pub last_lacks : (m : Moment) (old : Told) (d d' : DiskState) (f f' : FeedState) (x o o' : BytesState) (count : ℕ) (server : Server) (status : ℕ) → IsCut status → x.told ≡ Some [] → count ≤ max_script → (s : IsServing m old (outside_of d f x o) count [] server) → FeedGoes f f' → BytesGo o o' → (p : List ℕ)
    → Appends o.told o'.told p → HasRunTo m (lines_ended s.bytes) (s.written ++ p) d' f' ⊎ HasRunTo m (lines_ended s.bytes ++ open_line s.bytes ∷ []) (s.written ++ p) d' f' → HasServed m old (outside_of d' f' x o') status
last_lacks m old d d' f f' x o o' count server status cut at_end short s feed out p a h =
    let u = told_after d d' f f' x o o' s.now s.tells feed out in
    let none : s.now.script ≡ [] = told_same x.told [] s.now.script at_end s.tells.script in
    let whole : old.script ≡ s.bytes = s.took ∙ ap (λ z. s.bytes ++ z) none ∙ append-nil s.bytes in
    let took : old.script ≡ s.bytes ++ u.0.script = s.took ∙ ap (λ z. s.bytes ++ z) (sym u.2) in
    let wrote : u.0.written ≡ old.written ++ (s.written ++ p) = wrote_more old.written s.now.written s.written u.0.written p p s.wrote (appended o.told o'.told s.now.written u.0.written p s.tells.written u.1.written a) refl in
    let few : length s.bytes ≤ max_script = omega (arith, s.number, short) in
    elim h [
      | inl r ↦ served m old u.0 (outside_of d' f' x o') s.bytes (s.written ++ p) r.moments status u.1 took wrote r.now (omega (arith, s.script)) (omega (arith, s.out, out.faults))
          (ended_early cut (in_replies s.bytes ([], sym (append-nil s.bytes)) few r.runs r.front))
      | inr r ↦ served m old u.0 (outside_of d' f' x o') s.bytes (s.written ++ p) r.moments status u.1 took wrote r.now (omega (arith, s.script)) (omega (arith, s.out, out.faults))
          (ended_early cut (in_last_line (sym whole) (few_bytes old.script s.bytes count whole s.number short) (all_run m s.bytes old.script r.moments whole r.runs) r.front))
    ]

-- all lines were answered
pub all_served : (m : Moment) (old : Told) (d d' : DiskState) (f f' : FeedState) (x o mid o' : BytesState) (count : ℕ) (server : Server) (replica : Replica) (replies : List ℕ) (result : ℕ) → x.told ≡ Some [] → count ≤ max_script
    → (s : IsServing m old (outside_of d f x o) count [] server) → FeedGoes f f' → BytesGo o mid → mid.faults ≡ o.faults → (p : List ℕ) → Appends o.told mid.told p → HasRun m (lines_ended s.bytes ++ open_line s.bytes ∷ []) (s.written ++ p) d' f' replica replies
    → Finishes mid o' replies 0 result → BytesGo mid o' → HasServed m old (outside_of d' f' x o') result
all_served m old d d' f f' x o mid o' count server replica replies result at_end short s feed out kept p a h finishes goes =
    let u = told_after d d' f f' x o mid s.now s.tells feed out in
    let none : s.now.script ≡ [] = told_same x.told [] s.now.script at_end s.tells.script in
    let whole : old.script ≡ s.bytes = s.took ∙ ap (λ z. s.bytes ++ z) none ∙ append-nil s.bytes in
    let few = few_bytes old.script s.bytes count whole s.number short in
    let runs = all_run m s.bytes old.script h.moments whole h.runs in
    let written = s.written ++ p in
    finished m old u.0 d' f' x mid o' s.bytes written replies h.moments 0 result u.1 finishes goes (s.took ∙ ap (λ z. s.bytes ++ z) (sym u.2))
    (wrote_more old.written s.now.written s.written u.0.written p p s.wrote (appended o.told mid.told s.now.written u.0.written p s.tells.written u.1.written a) refl) h.now (omega (arith, s.script)) (omega (arith, s.out, kept))
    (all_answered refl (sym whole) few runs (sym h.text))
    (λ front begins. ended_early (inl refl) (in_last_line (sym whole) few runs (begins.0, h.text ∙ ap (λ z. written ++ z) begins.1 ∙ sym (append_assoc written front begins.0))))

-- ---- a script that fails

-- what was written, where no reply is kept
all_written : (m : Moment) (lines : List (List ℕ)) (written replies : List ℕ) (d : DiskState) (f : FeedState) (replica : Replica) (h : HasRun m lines written d f replica replies) → replies ≡ [] → run_text h.moments ≡ written
all_written m lines written replies d f replica h e = h.text ∙ ap (λ z. written ++ z) e ∙ append-nil written

-- a front of a line behind the replies
line_front : (text written line front : List ℕ) → text ≡ written → IsFront front line → IsFront (written ++ front) (text ++ line)
line_front text written line front e begins = (begins.0, ap (λ z. z ++ line) e ∙ ap (λ z. written ++ z) begins.1 ∙ sym (append_assoc written front begins.0))

-- the lines ended in what was taken were answered
pub fault_served : (m : Moment) (old : Told) (d : DiskState) (f : FeedState) (x x' o o' : BytesState) (count : ℕ) (server : Server) (result : ℕ) → count ≤ max_script → server.replies.items ≡ [] → Rose x.faults x'.faults → BytesGo x x' → Keeps x.told x'.told
    → IsServing m old (outside_of d f x o) count [] server → Finishes o o' script_fault_text 3 result → BytesGo o o' → HasServed m old (outside_of d f x' o') result
fault_served m old d f x x' o o' count server result short empty rose script keeps s finishes goes =
    let g = told_on x.told x'.told s.now.script script.stays s.tells.script in
    let same : g.0 ≡ s.now.script = kept_same x.told x'.told s.now.script g.0 s.tells.script g.1 keeps in
    let t : Told = record { feed = s.now.feed; script = g.0; written = s.now.written; counts = counts_of (outside_of d f x' o) } in
    let tells : Tells (outside_of d f x' o) t = record { feed = s.tells.feed; script = g.1; written = s.tells.written; counts = refl } in
    let h = s.stands.run in
    let few : length s.bytes ≤ max_script = omega (arith, s.number, short) in
    let risen : Rose m.counts.script x'.faults = omega (arith, s.script, rose) in
    let text = all_written m (lines_ended s.bytes) s.written server.replies.items d f server.replica h empty in
    finished m old t d f x' o o' s.bytes s.written script_fault_text h.moments 3 result tells finishes goes (s.took ∙ ap (λ z. s.bytes ++ z) (sym same)) s.wrote h.now (omega (arith, s.script, script.faults)) (omega (arith, s.out))
    (script_failed refl risen few h.runs (ap (λ z. z ++ script_fault_text) (sym text)))
    (λ front begins. ended_early (inl refl) (in_script_fault refl risen few h.runs (line_front (run_text h.moments) s.written script_fault_text front text begins)))

-- ---- a script that is too long

is_long : (script bytes more rest : List ℕ) → length bytes ≡ max_script → 0 < length more → script ≡ bytes ++ (more ++ rest) → max_script < length script
is_long script bytes more rest full over e = omega (arith, full, over, ap length e, length-append bytes (more ++ rest), length-append more rest)

first_bytes : (script bytes rest : List ℕ) → length bytes ≡ max_script → script ≡ bytes ++ rest → take max_script script ≡ bytes
first_bytes script bytes rest full e = ap (take max_script) e ∙ take_at bytes rest max_script full

part_bytes : (a b c d : List ℕ) → a ++ ((b ++ c) ++ d) ≡ (a ++ b) ++ (c ++ d)
part_bytes a b c d = ap (λ z. a ++ z) (append_assoc b c d) ∙ sym (append_assoc a b (c ++ d))

-- the lines ended within the longest were answered
pub long_served : (m : Moment) (old : Told) (d d' : DiskState) (f f' : FeedState) (x o mid o' : BytesState) (count : ℕ) (bytes more : List ℕ) (server server' : Server) (result : ℕ) → count + length bytes ≡ max_script → 0 < length more → server'.replies.items ≡ []
    → (s : IsServing m old (outside_of d f x o) count (bytes ++ more) server) → FeedGoes f f' → BytesGo o mid → mid.faults ≡ o.faults → (p : List ℕ) → Appends o.told mid.told p → Stands m (s.bytes ++ bytes) (s.written ++ p) d' f' server'
    → Finishes mid o' too_long_text 9 result → BytesGo mid o' → HasServed m old (outside_of d' f' x o') result
long_served m old d d' f f' x o mid o' count bytes more server server' result full over empty s feed goes kept p a stands finishes goes' =
    let u = told_after d d' f f' x o mid s.now s.tells feed goes in
    let h = stands.run in
    let all = s.bytes ++ bytes in
    let written = s.written ++ p in
    let rest : old.script ≡ all ++ (more ++ u.0.script) = s.took ∙ part_bytes s.bytes bytes more s.now.script ∙ ap (λ z. all ++ (more ++ z)) (sym u.2) in
    let took : old.script ≡ (all ++ more) ++ u.0.script = rest ∙ sym (append_assoc all more u.0.script) in
    let filled : length all ≡ max_script = omega (arith, s.number, full, length-append s.bytes bytes) in
    let long = is_long old.script all more u.0.script filled over rest in
    let runs = subst (λ b. Runs run_rules m (lines_ended b) h.moments) (sym (first_bytes old.script all (more ++ u.0.script) filled rest)) h.runs in
    let text = all_written m (lines_ended all) written server'.replies.items d' f' server'.replica h empty in
    finished m old u.0 d' f' x mid o' (all ++ more) written too_long_text h.moments 9 result u.1 finishes goes' took
    (wrote_more old.written s.now.written s.written u.0.written p p s.wrote (appended o.told mid.told s.now.written u.0.written p s.tells.written u.1.written a) refl)
    h.now (omega (arith, s.script)) (omega (arith, s.out, kept))
    (script_too_long refl long runs (ap (λ z. z ++ too_long_text) (sym text)))
    (λ front begins. ended_early (inl refl) (in_too_long refl long runs (line_front (run_text h.moments) written too_long_text front text begins)))

-- ---- reads

-- bytes were read that are not taken yet
pub read_on : (m : Moment) (old : Told) (d : DiskState) (f : FeedState) (x x' o : BytesState) (count : ℕ) (xs : List ℕ) (server : Server) → StaysTold x.told x'.told → Consumes x.told x'.told xs → x'.faults ≡ x.faults
    → IsServing m old (outside_of d f x o) count [] server → IsServing m old (outside_of d f x' o) count xs server
read_on m old d f x x' o count xs server stays took kept s =
    let g = told_on x.told x'.told s.now.script stays s.tells.script in
    record {
      now = record { feed = s.now.feed; script = g.0; written = s.now.written; counts = counts_of (outside_of d f x' o) };
      tells = record { feed = s.tells.feed; script = g.1; written = s.tells.written; counts = refl };
      bytes = s.bytes;
      written = s.written;
      number = s.number;
      took = s.took ∙ ap (λ z. s.bytes ++ z) (consumed x.told x'.told s.now.script g.0 xs s.tells.script g.1 took);
      wrote = s.wrote;
      script = kept ∙ s.script;
      out = s.out;
      stands = s.stands;
    }

pub ahead_is : {m : Moment} {old : Told} {w : Outside} {count : ℕ} {server : Server} (xs ys : List ℕ) → xs ≡ ys → IsServing m old w count xs server → IsServing m old w count ys server
ahead_is {m} {old} {w} {count} {server} xs ys e s = subst (λ z. IsServing m old w count z server) e s

pub none_left : (m : Moment) (old : Told) (w : Outside) (count : ℕ) (ahead : List ℕ) (server : Server) → IsServing m old w count ahead server → IsAtEnd w.script.told → w.script.told ≡ Some []
none_left m old w count ahead server s e = s.tells.script ∙ ap Some (at_its_end w.script.told s.now.script s.tells.script e)

-- ---- a run that begins

pub begins : (m : Moment) (old : Told) (w : Outside) (replica : Replica) (server : Server) → Tells w old → m.feed ≡ old.feed → m.counts ≡ old.counts → StandsIn w.disk m replica → server.replica ≡ replica → server.replies.items ≡ [] → server.line.items ≡ []
    → IsServing m old w 0 [] server
begins m old w replica server tells feed counts stands same replies line = record {
  now = old;
  tells = tells;
  bytes = [];
  written = [];
  number = refl;
  took = refl;
  wrote = sym (append-nil old.written);
  script = ap (λ (k : Counts). k.script) (tells.counts ∙ sym counts);
  out = ap (λ (k : Counts). k.out) (tells.counts ∙ sym counts);
  stands = record {
    run = record {
      moments = [];
      runs = tt;
      now = record { feed = tells.feed ∙ ap Some (sym feed); counts = counts ∙ sym tells.counts ∙ here };
      stands = subst (λ r. StandsIn w.disk m r) (sym same) stands;
      text = sym replies;
    };
    line = line;
  };
}
  where
    here : counts_of w ≡ record (counts_of w) { script = m.counts.script; out = m.counts.out }
    here = ap₂ (λ (a : ℕ) (b : ℕ). record (counts_of w) { script = a; out = b }) (ap (λ (k : Counts). k.script) (tells.counts ∙ sym counts)) (ap (λ (k : Counts). k.out) (tells.counts ∙ sym counts))
