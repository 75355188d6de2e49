-- The writes since the last sync, and what a crash leaves of them.
use Rattle.std.proofs.Common.{List, None, Option, Some, [], ap, append-nil, arith, drop, false, get_or, length, length-take, min, refl, replicate, reverse, slice_get, suc, sym, take, zero, ℕ, ◌++◌, ◌+◌, ◌-◌, ◌<◌, ◌∙◌, ◌∷◌, ◌≡◌, ◌≤◌}
use Rattle.std.proofs.lemmas.List.{length-replicate, length-reverse, take_more}
use Rattle.lt_world.specs.Disk.{AreBytes, Torn}
use Rattle.lt_disk.specs.Crash.{is_write, left_by, left_of, left_of_write, since_sync, torn_by}
use Rattle.lt_disk.specs.History.{HoldBytes, MayLeave}
use Rattle.lt_disk.specs.HistoryLaws.{bytes_take, images_are_bytes, torn_by_part, torn_by_write, torn_itself}
use Rattle.lt_disk.specs.declared.crash.Pick.{Pick}
use Rattle.lt_disk.specs.declared.crash.Pick.TheVariants as picks
use Rattle.lt_disk.specs.declared.history.Event.{Event}
use Rattle.lt_disk.specs.declared.history.Event.TheVariants.{Sync, Write}
use Rattle.lt_disk.proofs.Histories.{newest_first}

-- ---- the writes since the last sync

none_behind_sync : (e : Event) (earlier : List Event) → is_write e ≡ false → since_sync (e ∷ earlier) ≡ []
none_behind_sync (Write place bytes taken) earlier is = cc
none_behind_sync Sync earlier is = refl

-- a sync stands before the start
pub none_at_sync : (events : List Event) (start : ℕ) (e : Event) → 0 < start → start ≤ length events → e ≡ get_or events (start - 1) e → is_write e ≡ false → since_sync (reverse (take start events)) ≡ []
none_at_sync events start e some within here is =
    let on : start ≡ start - 1 + 1 = omega (arith, some) in
    let split : take start events ≡ take (start - 1) events ++ e ∷ [] =
    ap (λ n. take n events) on ∙ take_more events (start - 1) e (omega (arith, some, within)) ∙ ap (λ x. take (start - 1) events ++ x ∷ []) (sym here) in
    ap (λ l. since_sync (reverse l)) split ∙ ap since_sync (newest_first (take (start - 1) events) e) ∙ none_behind_sync e (reverse (take (start - 1) events)) is

pub only_since : (events : List Event) (start : ℕ) → since_sync (reverse events) ≡ reverse (drop start events) ++ since_sync (reverse (take start events)) → since_sync (reverse (take start events)) ≡ []
    → since_sync (reverse events) ≡ reverse (drop start events)
only_since events start since none = since ∙ ap (λ l. reverse (drop start events) ++ l) none ∙ append-nil (reverse (drop start events))

-- ---- what the picks leave

newest_of : (events : List Event) (n : ℕ) (e : Event) → n < length events → e ≡ get_or events n e → reverse (take (n + 1) events) ≡ e ∷ reverse (take n events)
newest_of events n e within here = ap reverse (take_more events n e within ∙ ap (λ x. take n events ++ x ∷ []) (sym here)) ∙ newest_first (take n events) e

pub torn_more : (ps : List Pick) (events : List Event) (n : ℕ) (e : Event) (image : List ℕ) → n < length events → e ≡ get_or events n e
    → torn_by ps (reverse (take (n + 1) events)) image ≡ left_of (slice_get ps n) e (torn_by ps (reverse (take n events)) image)
torn_more ps events n e image within here =
    let count : length (reverse (take n events)) ≡ n = omega (arith, length-reverse (take n events), length-take n events, within) in
    ap (λ es. torn_by ps es image) (newest_of events n e within here) ∙ ap (λ k. left_of (slice_get ps k) e (torn_by ps (reverse (take n events)) image)) count

bytes_replicate : (n byte : ℕ) → byte < 256 → AreBytes (replicate n byte)
bytes_replicate zero byte small i = omega arith
bytes_replicate (suc n) byte small zero = small
bytes_replicate (suc n) byte small (suc i) = bytes_replicate n byte small i

torn_by_pick : (pick : Option Pick) (place : ℕ) (bytes image : List ℕ) → AreBytes image → AreBytes bytes → Torn place (length bytes) image (left_of_write pick place bytes image)
torn_by_pick None place bytes image p q = torn_itself image place (length bytes) p
torn_by_pick (Some picks.Old) place bytes image p q = torn_itself image place (length bytes) p
torn_by_pick (Some picks.New) place bytes image p q = torn_by_write image bytes place p q
torn_by_pick (Some (picks.Prefix n)) place bytes image p q = torn_by_part image (take n bytes) place (length bytes) (omega (arith, length-take n bytes)) p (bytes_take n bytes q)
torn_by_pick (Some (picks.Fill byte)) place bytes image p q =
    torn_by_part image (replicate (length bytes) (min byte 255)) place (length bytes) (omega (arith, length-replicate {A = ℕ} (length bytes) (min byte 255))) p (bytes_replicate (length bytes) (min byte 255) (omega arith))

-- it is one of the images
pub left_is_image : (ps : List Pick) (first : List ℕ) (events : List Event) → HoldBytes first events → MayLeave first events (left_by ps first events)
left_is_image ps first [] hold = refl
left_is_image ps first (Write place bytes taken ∷ earlier) hold =
    let before : HoldBytes first earlier = (hold.0, hold.1.1) in
    let image = left_is_image ps first earlier before in
    (left_by ps first earlier, image, torn_by_pick (slice_get ps (length (since_sync earlier))) place bytes (left_by ps first earlier) (images_are_bytes first earlier (left_by ps first earlier) before image) hold.1.0)
left_is_image ps first (Sync ∷ earlier) hold = refl
