-- What a call leaves of the images.
use Rattle.std.proofs.Common.{List, subst, sym, ℕ, ◌∷◌, ◌≡◌}
use Rattle.lt_world.specs.Disk.{AreBytes, Follows, Torn}
use Rattle.lt_disk.specs.History.{HoldBytes, MayLeave, replay}
use Rattle.lt_disk.specs.HistoryLaws.{images_are_bytes, replay_bytes, replay_is_image, torn_itself}
use Rattle.lt_disk.specs.declared.history.Event.{Event}
use Rattle.lt_disk.specs.declared.history.Event.TheVariants.{Sync}

-- where every image is one of bytes, a write may have left each as it is
stays_follow : (place len : ℕ) (images : List ℕ → Type 0) → ((c : List ℕ) → images c → AreBytes c) → Follows (Torn place len) images images
stays_follow place len images are = λ c image. (c, image, torn_itself c place len (are c image))

pub any_image_follows : (place len : ℕ) → Follows (Torn place len) AreBytes AreBytes
any_image_follows place len = stays_follow place len AreBytes (λ c image. image)

-- a write that was not noted
pub unnoted_follows : (place len : ℕ) (first first' : List ℕ) (events events' : List Event) → HoldBytes first events → first' ≡ first → events' ≡ events
    → Follows (Torn place len) (MayLeave first events) (MayLeave first' events')
unnoted_follows place len first first' events events' hold same unnoted =
    subst (λ l. Follows (Torn place len) (MayLeave first events) (MayLeave l events')) (sym same)
    (subst (λ es. Follows (Torn place len) (MayLeave first events) (MayLeave first es)) (sym unnoted) (stays_follow place len (MayLeave first events) (λ c image. images_are_bytes first events c hold image)))

-- what reads is made of bytes, so a write may have left it as it is
pub torn_held : (place len : ℕ) (first held held' : List ℕ) (events : List Event) → held ≡ replay first events → HoldBytes first events → held' ≡ held → Torn place len held held'
torn_held place len first held held' events is hold same =
    subst (Torn place len held) (sym same) (torn_itself held place len (subst AreBytes (sym is) (replay_bytes first events hold)))

-- a sync leaves what reads, which was one of the images
pub synced : (first : List ℕ) (events events' : List Event) → HoldBytes first events → events' ≡ Sync ∷ events → (c : List ℕ) → MayLeave first events' c → MayLeave first events c
synced first events events' hold noted c image =
    subst (MayLeave first events) (sym (subst (λ es. MayLeave first es c) noted image)) (replay_is_image first events hold)
