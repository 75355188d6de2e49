-- A run goes on line by line.
use Rattle.std.proofs.lemmas.List.{length-take, length-take-le, take-append-le}
use Rattle.std.proofs.Common.{drop, inl, inr, take-append-drop, length-append, ltb-false, ltb-true, take_all, ◌≡◌, ℕ, ◌+◌, ◌<◌, ◌≤◌, Bool, true, false, List, [], ◌∷◌, ◌++◌, length, take, refl, sym, ap, ◌∙◌, subst, arith, append_assoc, append-nil}
use Rattle.std.specs.Prelude.{Err, MatchResult, Ok, Option, Result, nat_lt, ◌==◌, ◌⊎◌, min}
use Rattle.lt_world.specs.Disk.{DiskState}
use Rattle.lt_words.specs.Lines.{line_read}
use Rattle.lt_machine.specs.InMemory.{on_memory}
use Rattle.lt_world.specs.Feed.{FeedState}
use Rattle.lt_world.specs.Object.{IsFront}
use Rattle.lt_words.specs.Reply.{bad_line_text}
use Rattle.lt_machine.specs.Run.{LineRuns, LineRunsAs, Moment, Rules, Runs, last_moment, lines_ended, run_text}
use Rattle.lt_tables.specs.Query.{Command}
use Rattle.lt_words.specs.Script.{bad_line, max_line, skipped, spells_command}
use Rattle.lt_lemmas.proofs.FrontLaws.{grows_itself}
use Rattle.lt_script.specs.Lines.{kept_of}
use Rattle.lt_engine.specs.declared.replica.Replica.{Replica}
use Rattle.lightning_cli.specs.Commands.{HasAnswered, IsNow, StandsIn, run_rules}
use Rattle.lightning_cli.specs.Serving.{HasRun, HasRunSome, HasRunTo, Stands, open_line}
use Rattle.lightning_cli.specs.declared.server.Server.{Server}
use Rattle.lightning_cli.proofs.PieceLaws.{byte_ended, byte_open, end_ended, end_open}

-- the lines run, and then one more
runs_more : (rules : Rules) (before : Moment) (lines : List (List ℕ)) (ms : List Moment) (line : List ℕ) (m : Moment) → Runs rules before lines ms → LineRuns rules (last_moment before ms) line m → Runs rules before (lines ++ line ∷ []) (ms ++ m ∷ [])
runs_more rules before [] [] line m r l = (l, tt)
runs_more rules before [] (x ∷ ms) line m r l = absurd r
runs_more rules before (y ∷ lines) [] line m r l = absurd r
runs_more rules before (y ∷ lines) (x ∷ ms) line m r l = (r.0, runs_more rules x lines ms line m r.1 l)

last_more : (before : Moment) (ms : List Moment) (m : Moment) → last_moment before (ms ++ m ∷ []) ≡ m
last_more before [] m = refl
last_more before (x ∷ ms) m = last_more x ms m

text_more : (ms : List Moment) (m : Moment) → run_text (ms ++ m ∷ []) ≡ run_text ms ++ m.text
text_more [] m = append-nil m.text
text_more (x ∷ ms) m = ap (λ t. x.text ++ t) (text_more ms m) ∙ sym (append_assoc x.text (run_text ms) m.text)

-- ---- what was answered goes on by a line

-- one more line, by the moment that it leads to
more_run : (start : Moment) (lines : List (List ℕ)) (written : List ℕ) (d d' : DiskState) (f f' : FeedState) (replica replica' : Replica) (replies line : List ℕ) (m : Moment) → (h : HasRun start lines written d f replica replies)
    → LineRuns run_rules (last_moment start h.moments) line m → IsNow d' f' start m → StandsIn d' m replica' → HasRun start (lines ++ line ∷ []) written d' f' replica' (replies ++ m.text)
more_run start lines written d d' f f' replica replica' replies line m h l now stands =
    let last : m ≡ last_moment start (h.moments ++ m ∷ []) = sym (last_more start h.moments m) in
    record {
      moments = h.moments ++ m ∷ [];
      runs = runs_more run_rules start lines h.moments line m h.runs l;
      now = subst (λ x. IsNow d' f' start x) last now;
      stands = subst (λ x. StandsIn d' x replica') last stands;
      text = text_more h.moments m ∙ ap (λ t. t ++ m.text) h.text ∙ append_assoc written replies m.text;
    }

-- a line that is no command adds a text, and leaves all else
quiet_line : (start : Moment) (lines : List (List ℕ)) (written : List ℕ) (d : DiskState) (f : FeedState) (replica : Replica) (replies line text : List ℕ) → (h : HasRun start lines written d f replica replies)
    → LineRunsAs on_memory.cause (last_moment start h.moments) (line_read line) (record (last_moment start h.moments) { text = text }) → HasRun start (lines ++ line ∷ []) written d f replica (replies ++ text)
quiet_line start lines written d f replica replies line text h r =
    let last = last_moment start h.moments in
    more_run start lines written d d f f replica replica replies line (record last { text = text }) h
    (record { grows = grows_itself last.feed; runs = r })
    (record { feed = h.now.feed; counts = h.now.counts })
    (record { stands = h.stands.stands; serves = h.stands.serves })

pub skipped_runs : {start : Moment} {lines : List (List ℕ)} {written : List ℕ} {d : DiskState} {f : FeedState} {replica : Replica} {replies : List ℕ} (line : List ℕ)
    → line_read line ≡ skipped → HasRun start lines written d f replica replies → HasRun start (lines ++ line ∷ []) written d f replica replies
skipped_runs {start} {lines} {written} {d} {f} {replica} {replies} line e h =
    let last = last_moment start h.moments in
    subst (λ r. HasRun start (lines ++ line ∷ []) written d f replica r) (append-nil replies)
    (quiet_line start lines written d f replica replies line [] h (subst (λ x. LineRunsAs on_memory.cause last x (record last { text = [] })) (sym e) (refl, refl, refl)))

pub bad_runs : {start : Moment} {lines : List (List ℕ)} {written : List ℕ} {d : DiskState} {f : FeedState} {replica : Replica} {replies : List ℕ} (line more : List ℕ)
    → line_read line ≡ bad_line → more ≡ replies ++ bad_line_text → HasRun start lines written d f replica replies → HasRun start (lines ++ line ∷ []) written d f replica more
bad_runs {start} {lines} {written} {d} {f} {replica} {replies} line more e m h =
    let last = last_moment start h.moments in
    subst (λ r. HasRun start (lines ++ line ∷ []) written d f replica r) (sym m)
    (quiet_line start lines written d f replica replies line bad_line_text h (subst (λ x. LineRunsAs on_memory.cause last x (record last { text = bad_line_text })) (sym e) (refl, refl, refl)))

-- of what was to be written some is, and the rest is kept
pub run_shift : {start : Moment} {lines : List (List ℕ)} {written : List ℕ} {d : DiskState} {f : FeedState} {replica : Replica} {replies : List ℕ} (more rest : List ℕ)
    → replies ≡ more ++ rest → HasRun start lines written d f replica replies → HasRun start lines (written ++ more) d f replica rest
run_shift {start} {lines} {written} {d} {f} {replica} {replies} more rest e h = record {
  moments = h.moments;
  runs = h.runs;
  now = h.now;
  stands = h.stands;
  text = h.text ∙ ap (λ r. written ++ r) e ∙ sym (append_assoc written more rest);
}

pub command_runs : {T E : Type 0} {start : Moment} {lines : List (List ℕ)} {written : List ℕ} {d d' : DiskState} {f f' : FeedState} {replica replica' : Replica} {replies kept : List ℕ} {held held' : Option (List ℕ)} {out : Result T E} (line : List ℕ)
    (c : Command) → line_read line ≡ spells_command c → (h : HasRun start lines written d f replica replies) → (a : HasAnswered start (last_moment start h.moments) c d' f' replica' held held' replies kept out)
    → HasRun start (lines ++ line ∷ []) (written ++ a.more) d' f' replica' a.rest
command_runs {T} {E} {start} {lines} {written} {d} {d'} {f} {f'} {replica} {replica'} {replies} line c e h a =
    run_shift a.more a.rest a.text (more_run start lines written d d' f f' replica replica' replies line a.leads.next h
    (record { grows = a.leads.grows; runs = subst (λ x. LineRunsAs on_memory.cause (last_moment start h.moments) x a.leads.next) (sym e) a.leads.runs }) a.leads.now a.leads.stands)

pub run_replies : {start : Moment} {lines : List (List ℕ)} {written : List ℕ} {d : DiskState} {f : FeedState} {replica : Replica} {replies : List ℕ} (now : List ℕ)
    → replies ≡ now → HasRun start lines written d f replica replies → HasRun start lines written d f replica now
run_replies {start} {lines} {written} {d} {f} {replica} now e h = subst (λ x. HasRun start lines written d f replica x) e h

pub run_to : {start : Moment} {lines : List (List ℕ)} {written : List ℕ} {d : DiskState} {f : FeedState} {replica : Replica} {replies : List ℕ} → HasRun start lines written d f replica replies → HasRunTo start lines written d f
run_to {start} {lines} {written} {d} {f} {replica} {replies} h = record { moments = h.moments; runs = h.runs; now = h.now; front = (replies, h.text) }

-- a command was answered, or the run ends in it
pub command_ends : {T E : Type 0} {start : Moment} {lines : List (List ℕ)} {written : List ℕ} {d d' : DiskState} {f f' : FeedState} {replica replica' : Replica} {replies kept : List ℕ} {held held' : Option (List ℕ)} (out : Result T E) (line : List ℕ)
    (c : Command) → line_read line ≡ spells_command c → (h : HasRun start lines written d f replica replies) → (a : HasAnswered start (last_moment start h.moments) c d' f' replica' held held' replies kept out)
    → MatchResult out (λ _. HasRun start (lines ++ line ∷ []) (written ++ a.more) d' f' replica' kept) (λ _. HasRunTo start lines (written ++ a.more) d' f' ⊎ HasRunTo start (lines ++ line ∷ []) (written ++ a.more) d' f')
command_ends (Ok x) line c e h a = run_replies _ (sym a.left) (command_runs line c e h a)
command_ends (Err x) line c e h a = inr (run_to (command_runs line c e h a))

-- ---- where a run is broken off

-- a front of the replies was written besides
pub run_front : {start : Moment} {lines : List (List ℕ)} {written : List ℕ} {d : DiskState} {f : FeedState} {replica : Replica} {replies : List ℕ} (front : List ℕ) → IsFront front replies → HasRun start lines written d f replica replies → HasRunTo start lines (written ++ front) d f
run_front {start} {lines} {written} front begins h = record {
  moments = h.moments;
  runs = h.runs;
  now = h.now;
  front = (begins.0, h.text ∙ ap (λ x. written ++ x) begins.1 ∙ sym (append_assoc written front begins.0));
}

pub to_some : {start : Moment} {written : List ℕ} {d : DiskState} {f : FeedState} (part bytes : List ℕ) → IsFront part bytes → HasRunTo start (lines_ended part) written d f → HasRunSome start bytes written d f
to_some part bytes begins h = record { part = part; begins = begins; run = h }

pub front_then : (a b c : List ℕ) → IsFront a b → IsFront b c → IsFront a c
front_then a b c h k = (h.0 ++ k.0, k.1 ∙ ap (λ x. x ++ k.0) h.1 ∙ append_assoc a h.0 k.0)

pub some_more : {start : Moment} {bytes written : List ℕ} {d : DiskState} {f : FeedState} (more : List ℕ) → IsFront bytes more → HasRunSome start bytes written d f → HasRunSome start more written d f
some_more {start} {bytes} more begins h = record { part = h.part; begins = front_then h.part bytes more h.begins begins; run = h.run }

pub some_written : {start : Moment} {bytes written now : List ℕ} {d : DiskState} {f : FeedState} → written ≡ now → HasRunSome start bytes written d f → HasRunSome start bytes now d f
some_written {start} {bytes} {written} {now} {d} {f} e h = subst (λ x. HasRunSome start bytes x d f) e h

pub front_of_bytes : (before bytes : List ℕ) (i : ℕ) → IsFront (before ++ take i bytes) (before ++ bytes)
front_of_bytes before bytes i = (drop i bytes, ap (λ x. before ++ x) (sym (take-append-drop i bytes)) ∙ sym (append_assoc before (take i bytes) (drop i bytes)))

pub front_itself : (bytes : List ℕ) → IsFront bytes bytes
front_itself bytes = ([], sym (append-nil bytes))

-- ---- byte by byte

-- a byte that ends the line
pub ended_stands : {start : Moment} {written : List ℕ} {d : DiskState} {f : FeedState} (before : List ℕ) (b : ℕ) (s : Server) → b ≡ 10
    → HasRun start (lines_ended before ++ open_line before ∷ []) written d f s.replica s.replies.items → s.line.items ≡ [] → Stands start (before ++ b ∷ []) written d f s
ended_stands {start} {written} {d} {f} before b s is h empty = subst (λ x. Stands start (before ++ x ∷ []) written d f s) (sym is) (record {
  run = subst (λ ls. HasRun start ls written d f s.replica s.replies.items) (sym (end_ended before)) h;
  line = empty ∙ ap kept_of (sym (end_open before));
})

-- where the line that it ends found no memory
pub ended_some : {start : Moment} {written : List ℕ} {d : DiskState} {f : FeedState} (before : List ℕ) (b : ℕ) → b ≡ 10
    → HasRunTo start (lines_ended before) written d f ⊎ HasRunTo start (lines_ended before ++ open_line before ∷ []) written d f → HasRunSome start (before ++ b ∷ []) written d f
ended_some before b is (inl h) = to_some before (before ++ b ∷ []) (b ∷ [], refl) h
ended_some {start} {written} {d} {f} before b is (inr h) = subst (λ x. HasRunSome start (before ++ x ∷ []) written d f) (sym is)
    (to_some (before ++ 10 ∷ []) (before ++ 10 ∷ []) (front_itself (before ++ 10 ∷ [])) (subst (λ ls. HasRunTo start ls written d f) (sym (end_ended before)) h))

-- a byte that goes on with it
pub goes_stands : {start : Moment} {written : List ℕ} {d : DiskState} {f : FeedState} (before : List ℕ) (b : ℕ) (s t : Server) → (b == 10) ≡ false → t.replica ≡ s.replica → t.replies.items ≡ s.replies.items
    → (s.line.items ≡ kept_of (open_line before) → t.line.items ≡ kept_of (open_line before ++ b ∷ [])) → Stands start before written d f s → Stands start (before ++ b ∷ []) written d f t
goes_stands {start} {written} {d} {f} before b s t no_end same replies line h = record {
  run = subst (λ r. HasRun start (lines_ended (before ++ b ∷ [])) written d f r t.replies.items) (sym same)
      (run_replies t.replies.items (sym replies) (subst (λ ls. HasRun start ls written d f s.replica s.replies.items) (sym (byte_ended before b no_end)) h.run));
  line = line h.line ∙ ap kept_of (sym (byte_open before b no_end));
}

-- the first bytes of a line that goes on
pub kept_more : (line : List ℕ) (b : ℕ) (kept : List ℕ) → kept ≡ kept_of line → length kept ≤ max_line → kept ++ b ∷ [] ≡ kept_of (line ++ b ∷ [])
kept_more line b kept e short = by (nat_lt max_line (length line)) refl
  where
    by : (t : Bool) → nat_lt max_line (length line) ≡ t → kept ++ b ∷ [] ≡ kept_of (line ++ b ∷ [])
    by true h =
        let long : length (kept_of line) ≡ max_line + 1 = length-take-le (max_line + 1) line (omega (arith, ltb-true max_line (length line) h)) in
        absurd (omega (arith, short, ap length e, long))
    by false h =
        let all : kept_of line ≡ line = take_all (max_line + 1) line (omega (arith, ltb-false max_line (length line) h)) in
        let whole : kept_of (line ++ b ∷ []) ≡ line ++ b ∷ [] = take_all (max_line + 1) (line ++ b ∷ []) (omega (arith, ltb-false max_line (length line) h, length-append line (b ∷ []))) in
        ap (λ x. x ++ b ∷ []) (e ∙ all) ∙ sym whole

pub kept_full : (line : List ℕ) (b : ℕ) (kept : List ℕ) → kept ≡ kept_of line → max_line < length kept → kept ≡ kept_of (line ++ b ∷ [])
kept_full line b kept e long =
    let n : length (kept_of line) ≡ min (max_line + 1) (length line) = length-take (max_line + 1) line in
    let enough : max_line + 1 ≤ length line = omega (arith, long, ap length e, n) in
    e ∙ sym (take-append-le (max_line + 1) line (b ∷ []) enough)

-- ---- the same by another name

pub thrice : (w a b c : List ℕ) → ((w ++ a) ++ b) ++ c ≡ w ++ (a ++ (b ++ c))
thrice w a b c = append_assoc (w ++ a) b c ∙ append_assoc w a (b ++ c)

pub stands_at : {start : Moment} {written now : List ℕ} {d : DiskState} {f : FeedState} {s : Server} (before bytes : List ℕ) → before ≡ bytes → written ≡ now → Stands start before written d f s → Stands start bytes now d f s
stands_at {start} {written} {now} {d} {f} {s} before bytes e h x = subst (λ b. Stands start b now d f s) e (subst (λ w. Stands start before w d f s) h x)

-- some first replies were written, and the others are kept
pub flushed : {start : Moment} {bytes written : List ℕ} {d : DiskState} {f : FeedState} (s t : Server) (first : List ℕ) → t.replica ≡ s.replica → t.line.items ≡ s.line.items → s.replies.items ≡ first ++ t.replies.items
    → Stands start bytes written d f s → Stands start bytes (written ++ first) d f t
flushed {start} {bytes} {written} {d} {f} s t first same line replies h = record {
  run = subst (λ r. HasRun start (lines_ended bytes) (written ++ first) d f r t.replies.items) (sym same) (run_shift first t.replies.items replies h.run);
  line = line ∙ h.line;
}
