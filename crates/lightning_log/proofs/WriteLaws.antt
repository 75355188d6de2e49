-- How far a run has come, one step after another.
use Rattle.std.proofs.Common.{List, None, Option, Some, [], ap, append-nil, append_assoc, arith, false, inl, inr, length, length-append, refl, subst, sym, take, ℕ, ◌+◌, ◌++◌, ◌<◌, ◌∙◌, ◌∷◌, ◌≡◌, ◌≤◌}
use Rattle.std.specs.Prelude.{◌==◌, ◌≢◌}
use Rattle.std.specs.Io.KnownBytes.{Appends, Consumes, IsAtEnd, Keeps}
use Rattle.lt_world.specs.Object.{IsFront}
use Rattle.lightning_log.specs.Front.{AppendsFront}
use Rattle.lightning_log.specs.Writing.{Cause, EndsWith, HasWritten, IsWriting, IsWritingTo, NoEnd, Said, Say, SaysFrame, Stands, Stops, all_lines, cut, ended, last_line, lost, max_line, refused, status_of}
use Rattle.lightning_log.specs.declared.encoder.Encoder.{Encoder}
use Rattle.lightning_log.specs.declared.encoder.Stop.{Stop}
use Rattle.lightning_log.specs.declared.encoder.Stop.TheVariants as stops
use Rattle.lt_log_text.specs.declared.refusal.LineRefusal.TheVariants as refusals

-- ---- what devices take and give

pub appends_nothing : (o : Option (List ℕ)) → Appends o o []
appends_nothing None = tt
appends_nothing (Some a) = sym (append-nil a)

pub appends_then : (o p q : Option (List ℕ)) (xs ys : List ℕ) → Appends o p xs → Appends p q ys → Appends o q (xs ++ ys)
appends_then None p q xs ys h k = tt
appends_then (Some a) None q xs ys h k = absurd h
appends_then (Some a) (Some b) None xs ys h k = absurd k
appends_then (Some a) (Some b) (Some c) xs ys h k = k ∙ ap (λ x. x ++ ys) h ∙ append_assoc a xs ys

pub consumes_nothing : (o : Option (List ℕ)) → Consumes o o []
consumes_nothing None = tt
consumes_nothing (Some a) = refl

pub consumes_then : (o p q : Option (List ℕ)) (xs ys : List ℕ) → Consumes o p xs → Consumes p q ys → Consumes o q (xs ++ ys)
consumes_then None p q xs ys h k = tt
consumes_then (Some a) None q xs ys h k = absurd h
consumes_then (Some a) (Some b) None xs ys h k = absurd k
consumes_then (Some a) (Some b) (Some c) xs ys h k = h ∙ ap (λ z. xs ++ z) k ∙ sym (append_assoc xs ys c)

pub consumes_kept : (o p q : Option (List ℕ)) (xs : List ℕ) → Consumes o p xs → Keeps p q → Consumes o q xs
consumes_kept None p q xs h k = tt
consumes_kept (Some a) None q xs h k = absurd h
consumes_kept (Some a) (Some b) None xs h k = absurd k
consumes_kept (Some a) (Some b) (Some c) xs h k = h ∙ ap (λ z. xs ++ z) (sym k)

-- ---- lines

pub say_more : (ls : List (List ℕ)) (l f out : List ℕ) → Say ls out → SaysFrame l f → Say (ls ++ l ∷ []) (out ++ f)
say_more [] l f out h s = (f, [], s, refl, ap (λ z. z ++ f) h ∙ sym (append-nil f))
say_more (m ∷ ls) l f out h s = (h.0, h.1 ++ f, h.2, say_more ls l f h.1 h.3 s, ap (λ z. z ++ f) h.4 ∙ append_assoc h.0 h.1 f)

pub ended_more : (ls : List (List ℕ)) (l : List ℕ) → ended (ls ++ l ∷ []) ≡ ended ls ++ (l ++ 10 ∷ [])
ended_more [] l = append-nil (l ++ 10 ∷ [])
ended_more (m ∷ ls) l = ap (λ z. (m ++ 10 ∷ []) ++ z) (ended_more ls l) ∙ sym (append_assoc (m ++ 10 ∷ []) (ended ls) (l ++ 10 ∷ []))

no_end_more : (bs : List ℕ) (b : ℕ) → NoEnd bs → (b == 10) ≡ false → NoEnd (bs ++ b ∷ [])
no_end_more [] b h k = (k, tt)
no_end_more (c ∷ bs) b h k = (h.0, no_end_more bs b h.1 k)

-- ---- one byte

pub stands_open : (taken written : List ℕ) (e e' : Encoder) (b : ℕ) → Stands taken written e → (b == 10) ≡ false → length e.line.items < max_line
    → e'.line.items ≡ e.line.items ++ b ∷ [] → e'.frames.items ≡ e.frames.items → Stands (taken ++ b ∷ []) written e'
stands_open taken written e e' b s one room line frames = record {
  lines = s.lines;
  taken_is = ap (λ z. z ++ b ∷ []) s.taken_is ∙ append_assoc (ended s.lines) e.line.items (b ∷ []) ∙ ap (λ z. ended s.lines ++ z) (sym line);
  one = subst NoEnd (sym line) (no_end_more e.line.items b s.one one);
  short = let n : length e'.line.items ≡ length e.line.items + 1 = ap length line ∙ length-append e.line.items (b ∷ []) in omega (arith, n, room);
  say = subst (λ z. Say s.lines (written ++ z)) (sym frames) s.say;
}

pub stands_ended : (taken written : List ℕ) (e e' : Encoder) (b : ℕ) → Stands taken written e → b ≡ 10 → Said e.line.items e.frames.items e'.frames.items
    → e'.line.items ≡ [] → Stands (taken ++ b ∷ []) written e'
stands_ended taken written e e' b s ten said line = record {
  lines = s.lines ++ e.line.items ∷ [];
  taken_is = ap (λ n. taken ++ n ∷ []) ten ∙ ap (λ z. z ++ 10 ∷ []) s.taken_is ∙ append_assoc (ended s.lines) e.line.items (10 ∷ []) ∙ sym (ended_more s.lines e.line.items)
      ∙ sym (append-nil (ended (s.lines ++ e.line.items ∷ []))) ∙ ap (λ z. ended (s.lines ++ e.line.items ∷ []) ++ z) (sym line);
  one = subst NoEnd (sym line) tt;
  short = let n : length e'.line.items ≡ 0 = ap length line in omega (arith, n);
  say = subst (Say (s.lines ++ e.line.items ∷ [])) (append_assoc written e.frames.items said.0 ∙ ap (λ z. written ++ z) (sym said.2))
      (say_more s.lines e.line.items said.0 (written ++ e.frames.items) s.say (record { one = s.one; short = s.short; says = said.1 }));
}

pub stops_here : (taken written more : List ℕ) (e e' : Encoder) (why : Stop) → Stands taken written e → Cause e.line.items why → e'.frames.items ≡ e.frames.items
    → Stops (taken ++ more) written e' why
stops_here taken written more e e' why s cause frames = record {
  lines = s.lines;
  line = e.line.items;
  rest = more;
  taken_is = ap (λ z. z ++ more) s.taken_is ∙ append_assoc (ended s.lines) e.line.items more;
  one = s.one;
  cause = cause;
  say = subst (λ z. Say s.lines (written ++ z)) (sym frames) s.say;
}

-- ---- several bytes

pub stands_as : (taken taken' written : List ℕ) (e : Encoder) → taken ≡ taken' → Stands taken written e → Stands taken' written e
stands_as taken taken' written e same s = subst (λ t. Stands t written e) same s

pub stops_more : (taken taken' more written : List ℕ) (e : Encoder) (why : Stop) → taken ++ more ≡ taken' → Stops taken written e why → Stops taken' written e why
stops_more taken taken' more written e why same s = record {
  lines = s.lines;
  line = s.line;
  rest = s.rest ++ more;
  taken_is = sym same ∙ ap (λ z. z ++ more) s.taken_is ∙ append_assoc (ended s.lines) (s.line ++ s.rest) more ∙ ap (λ z. ended s.lines ++ z) (append_assoc s.line s.rest more);
  one = s.one;
  cause = s.cause;
  say = s.say;
}

-- ---- turns

pub stands_flushed : (taken written : List ℕ) (e e' : Encoder) → Stands taken written e → e'.frames.items ≡ [] → e'.line.items ≡ e.line.items
    → Stands taken (written ++ e.frames.items) e'
stands_flushed taken written e e' s frames line = record {
  lines = s.lines;
  taken_is = s.taken_is ∙ ap (λ z. ended s.lines ++ z) (sym line);
  one = subst NoEnd (sym line) s.one;
  short = let n : length e'.line.items ≡ length e.line.items = ap length line in omega (arith, n, s.short);
  say = subst (Say s.lines) (sym (append-nil (written ++ e.frames.items)) ∙ ap (λ z. (written ++ e.frames.items) ++ z) (sym frames)) s.say;
}

pub written_more : (taken : List ℕ) (o p q : Option (List ℕ)) (e e1 e2 : Encoder) (more : List ℕ) (w : IsWritingTo taken o p e) → Stands (taken ++ more) w.written e1
    → Appends p q e1.frames.items → e2.frames.items ≡ [] → e2.line.items ≡ e1.line.items → IsWritingTo (taken ++ more) o q e2
written_more taken o p q e e1 e2 more w s appends frames line = record {
  written = w.written ++ e1.frames.items;
  appends = appends_then o p q w.written e1.frames.items w.appends appends;
  stands = stands_flushed (taken ++ more) w.written e1 e2 s frames line;
  nothing_kept = frames;
}

front_after : (a b front : List ℕ) → IsFront front b → IsFront (a ++ front) (a ++ b)
front_after a b front h = (h.0, ap (λ z. a ++ z) h.1 ∙ sym (append_assoc a front h.0))

-- some lines said these frames, of which a front was written where the output failed
lost_by : (i i' o p q : Option (List ℕ)) (taken written frames : List ℕ) (lines : List (List ℕ)) (status : ℕ) → status ≡ 4 → Consumes i i' taken → Appends o p written
    → IsFront (ended lines) (taken ++ 10 ∷ []) → Say lines (written ++ frames) → AppendsFront p q frames → HasWritten i i' o q status
lost_by i i' o p q taken written frames lines status four c a begins say f = record {
  taken = taken;
  written = written ++ f.0;
  consumes = c;
  appends = appends_then o p q written f.0 a f.2;
  outcome = lost lines (written ++ frames) four begins say (front_after written frames f.0 f.1);
  at_end = λ h. absurd (omega (arith, h, four));
}

pub lost_stands : (i i' o p q : Option (List ℕ)) (taken written : List ℕ) (e : Encoder) (status : ℕ) → status ≡ 4 → Consumes i i' taken → Appends o p written → Stands taken written e
    → AppendsFront p q e.frames.items → HasWritten i i' o q status
lost_stands i i' o p q taken written e status four c a s f =
    lost_by i i' o p q taken written e.frames.items s.lines status four c a
    (e.line.items ++ 10 ∷ [], ap (λ z. z ++ 10 ∷ []) s.taken_is ∙ append_assoc (ended s.lines) e.line.items (10 ∷ [])) s.say f

pub lost_stops : (i i' o p q : Option (List ℕ)) (taken written : List ℕ) (e : Encoder) (why : Stop) (status : ℕ) → status ≡ 4 → Consumes i i' taken → Appends o p written → Stops taken written e why
    → AppendsFront p q e.frames.items → HasWritten i i' o q status
lost_stops i i' o p q taken written e why status four c a s f =
    lost_by i i' o p q taken written e.frames.items s.lines status four c a
    ((s.line ++ s.rest) ++ 10 ∷ [], ap (λ z. z ++ 10 ∷ []) s.taken_is ∙ append_assoc (ended s.lines) (s.line ++ s.rest) (10 ∷ [])) s.say f

not_zero : (why : Stop) (status : ℕ) → status ≡ status_of why → 0 < status_of why → status ≡ 0 → ⊥
not_zero why status e some h = omega (arith, e, some, h)

pub refused_by : (i i' o p q : Option (List ℕ)) (taken written : List ℕ) (e : Encoder) (why : Stop) (status : ℕ) → status ≡ status_of why → 0 < status_of why → Consumes i i' taken → Appends o p written
    → Stops taken written e why → Appends p q e.frames.items → HasWritten i i' o q status
refused_by i i' o p q taken written e why status is some c a s more = record {
  taken = taken;
  written = written ++ e.frames.items;
  consumes = c;
  appends = appends_then o p q written e.frames.items a more;
  outcome = refused s.lines s.line s.rest why is s.taken_is s.one s.cause s.say;
  at_end = λ h. absurd (not_zero why status is some h);
}

pub cut_by : (i j i' o p : Option (List ℕ)) (e : Encoder) (status : ℕ) → status ≡ 3 → IsWriting i j o p e → Keeps j i' → HasWritten i i' o p status
cut_by i j i' o p e status three w kept = record {
  taken = w.taken;
  written = w.writing.written;
  consumes = consumes_kept i j i' w.taken w.consumes kept;
  appends = w.writing.appends;
  outcome = cut w.writing.stands.lines e.line.items three w.writing.stands.taken_is
      (subst (λ z. Say w.writing.stands.lines z) (ap (λ z. w.writing.written ++ z) w.writing.nothing_kept ∙ append-nil w.writing.written) w.writing.stands.say);
  at_end = λ h. absurd (omega (arith, h, three));
}

-- ---- the end

one_last : (line : List ℕ) → (line ≢ []) → last_line line ≡ line ∷ []
one_last [] h = absurd (h refl)
one_last (b ∷ bs) h = refl

say_last : (lines : List (List ℕ)) (line old new written : List ℕ) → NoEnd line → length line ≤ max_line → EndsWith line old new → Say lines (written ++ old) → Say (lines ++ last_line line) (written ++ new)
say_last lines line old new written one short h s = elim h [
  | inl none ↦
      let last : last_line line ≡ [] = ap last_line none.0 in
      subst (λ z. Say (lines ++ z) (written ++ new)) (sym last) (subst (λ z. Say z (written ++ new)) (sym (append-nil lines)) (subst (λ z. Say lines (written ++ z)) (sym none.1) s))
  | inr some ↦
      let said = some.1 in
      subst (λ z. Say (lines ++ z) (written ++ new)) (sym (one_last line some.0))
      (subst (Say (lines ++ line ∷ [])) (append_assoc written old said.0 ∙ ap (λ z. written ++ z) (sym said.2))
      (say_more lines line said.0 (written ++ old) s (record { one = one; short = short; says = said.1 })))
]

pub whole_by : (i i' o p q : Option (List ℕ)) (taken : List ℕ) (e e1 : Encoder) (status : ℕ) → status ≡ 0 → Consumes i i' taken → IsAtEnd i' → (w : IsWritingTo taken o p e)
    → EndsWith e.line.items e.frames.items e1.frames.items → Appends p q e1.frames.items → HasWritten i i' o q status
whole_by i i' o p q taken e e1 status zero c over w h more =
    let s = w.stands in
    record {
      taken = taken;
      written = w.written ++ e1.frames.items;
      consumes = c;
      appends = appends_then o p q w.written e1.frames.items w.appends more;
      outcome = all_lines s.lines e.line.items zero s.taken_is s.one (say_last s.lines e.line.items e.frames.items e1.frames.items w.written s.one s.short h s.say);
      at_end = λ z. over;
    }

last_lines : (lines : List (List ℕ)) (line taken : List ℕ) → taken ≡ ended lines ++ line → IsFront (ended (lines ++ last_line line)) (taken ++ 10 ∷ [])
last_lines lines [] taken h = (10 ∷ [], ap (λ z. z ++ 10 ∷ []) (h ∙ append-nil (ended lines) ∙ sym (ap ended (append-nil lines))))
last_lines lines (b ∷ bs) taken h =
    ([], ap (λ z. z ++ 10 ∷ []) h ∙ append_assoc (ended lines) (b ∷ bs) (10 ∷ []) ∙ sym (ended_more lines (b ∷ bs)) ∙ sym (append-nil (ended (lines ++ (b ∷ bs) ∷ []))))

pub lost_end : (i i' o p q : Option (List ℕ)) (taken : List ℕ) (e e1 : Encoder) (status : ℕ) → status ≡ 4 → Consumes i i' taken → (w : IsWritingTo taken o p e)
    → EndsWith e.line.items e.frames.items e1.frames.items → AppendsFront p q e1.frames.items → HasWritten i i' o q status
lost_end i i' o p q taken e e1 status four c w h f =
    let s = w.stands in
    lost_by i i' o p q taken w.written e1.frames.items (s.lines ++ last_line e.line.items) status four c w.appends
    (last_lines s.lines e.line.items taken s.taken_is) (say_last s.lines e.line.items e.frames.items e1.frames.items w.written s.one s.short h s.say) f

pub end_stops : (taken written : List ℕ) (e e' : Encoder) (why : Stop) → Stands taken written e → Cause e.line.items why → e'.frames.items ≡ e.frames.items → Stops taken written e' why
end_stops taken written e e' why s cause frames =
    let h = stops_here taken written [] e e' why s cause frames in
    record { lines = h.lines; line = h.line; rest = h.rest; taken_is = sym (append-nil taken) ∙ h.taken_is; one = h.one; cause = h.cause; say = h.say }

pub begins : (i o : Option (List ℕ)) (e : Encoder) → e.line.items ≡ [] → e.frames.items ≡ [] → IsWriting i i o o e
begins i o e line frames = record {
  taken = [];
  consumes = consumes_nothing i;
  writing = record {
    written = [];
    appends = appends_nothing o;
    stands = record { lines = []; taken_is = sym line; one = subst NoEnd (sym line) tt; short = let n : length e.line.items ≡ 0 = ap length line in omega (arith, n); say = frames };
    nothing_kept = frames;
  };
}

pub some_status : (why : Stop) → 0 < status_of why
some_status stops.TooLong = omega arith
some_status stops.Memory = omega arith
some_status (stops.Refused refusals.Memory) = omega arith
some_status (stops.Refused refusals.NotJson) = omega arith
some_status (stops.Refused refusals.NotAnObject) = omega arith
some_status (stops.Refused (refusals.Missing m)) = omega arith
some_status (stops.Refused (refusals.Wrong m)) = omega arith
some_status (stops.Refused (refusals.Unlawful r)) = omega arith
some_status (stops.Refused (refusals.TooLong len)) = omega arith

pub keeps_itself : (o : Option (List ℕ)) → Keeps o o
keeps_itself None = tt
keeps_itself (Some a) = refl

pub consumes_none : (o p q : Option (List ℕ)) (taken : List ℕ) (n : ℕ) (buf : List ℕ) → n ≡ 0 → Consumes o p taken → Consumes p q (take n buf) → Consumes o q taken
consumes_none o p q taken n buf zero h k = subst (Consumes o q) (append-nil taken) (consumes_then o p q taken [] h (subst (λ m. Consumes p q (take m buf)) zero k))
