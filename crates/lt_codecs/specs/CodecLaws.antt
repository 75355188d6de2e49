-- Each way to build a codec gives a codec.
use Rattle.std.specs.Prelude.{Bool, List, Option, Some, int_le, int_lt, length, negsuc, pos, ℕ, ℤ, ◌&&◌, ◌++◌, ◌-◌, ◌<◌, ◌^◌, ◌↔◌, ◌∷◌, ◌≡◌}
use Rattle.std.specs.Int.{Width, byte_len, from_be_bytes, to_be_bytes}
use mir.Val.{bits, hbits}
use Rattle.lt_codecs.specs.Codec.{Codec, IsBytes, IsCodec, Takes}
use Rattle.lt_codecs.specs.Codec as codec

-- ---- numbers

-- The numbers below the limit and the byte strings of the width tell one another.
pub record IsWide (w : Width) (limit : ℕ) : Type 0 where
  pub len : (n : ℕ) → length (to_be_bytes w n) ≡ byte_len w
  pub back : (bytes : List ℕ) → length bytes ≡ byte_len w → IsBytes bytes → to_be_bytes w (from_be_bytes w bytes) ≡ bytes
  pub again : (n : ℕ) → n < limit → from_be_bytes w (to_be_bytes w n) ≡ n
  pub below : (bytes : List ℕ) → IsBytes bytes → from_be_bytes w bytes < limit

-- from -half to half - 1
abbrev pub within : ℕ → ℤ → Bool
within half z = int_le (negsuc (half - 1)) z && int_lt z (pos half)

-- the tested numbers are those whose bits the unsigned number has
pub record IsSigned (w : Width) (fits : ℤ → Bool) (unsigned : Codec ℕ) : Type 0 where
  pub is_codec : IsCodec unsigned
  pub below : (n : ℕ) → unsigned.Lawful n → n < 2 ^ bits w
  pub lawful : (n : ℕ) → n < 2 ^ bits w → unsigned.Lawful n
  pub tests : (z : ℤ) → fits z ≡ within (2 ^ hbits w) z

-- ---- other types and tags

-- a grammar says of a type what a codec says of another one
pub record States {A B : Type 0} (to : B → A) (spell : A → List ℕ) (Lawful : A → Type 0) (b : Codec B) : Type 0 where
  pub made : (y : B) → b.Lawful y → Lawful (to y) × (b.spell y ≡ spell (to y))
  pub comes : (x : A) → Lawful x → (y : B) × (to y ≡ x) × b.Lawful y

-- what stands behind a tag was spelled with it
pub record IsBehind {A : Type 0} (spell : A → List ℕ) (Lawful : A → Type 0) (tag : ℕ) (bytes : List ℕ) (x : A) (rest : List ℕ) : Type 0 where
  pub text : List ℕ
  pub spells : spell x ≡ tag ∷ text
  pub taken : Takes bytes text rest
  pub lawful : Lawful x

-- a lawful value is read again behind its tag
pub record IsAgain {A : Type 0} (spell : A → List ℕ) (read_behind : ℕ → List ℕ → Option (A × List ℕ)) (x : A) (rest : List ℕ) : Type 0 where
  pub tag : ℕ
  pub text : List ℕ
  pub small : tag < 256
  pub spells : spell x ≡ tag ∷ text
  pub reads : read_behind tag (text ++ rest) ≡ Some (x, rest)

pub record IsTagged {A : Type 0} (spell : A → List ℕ) (Lawful : A → Type 0) (read_behind : ℕ → List ℕ → Option (A × List ℕ)) : Type 0 where
  pub takes : (tag : ℕ) (bytes : List ℕ) (x : A) (rest : List ℕ) → IsBytes bytes → read_behind tag bytes ≡ Some (x, rest) → IsBehind spell Lawful tag bytes x rest
  pub again : (x : A) (rest : List ℕ) → Lawful x → IsAgain spell read_behind x rest

-- behind the tag stands what the codec spells, and that is the grammar's spelling of what it says
abbrev pub SaysBehind : {A B : Type 0} → ℕ → Codec B → (B → A) → (A → List ℕ) → (A → Type 0) → Type 0
SaysBehind {A} {B} k b to spell Lawful = (y : B) → b.Lawful y → (spell (to y) ≡ k ∷ b.spell y) × Lawful (to y)

-- ---- all ways to build

-- Any codecs and any grammar: of A, of B, of a number or a count, of B as a value of A chooses it, and of B as it is stated.
pub record Parts (A B : Type 0) : Type 1 where
  pub a : Codec A
  pub b : Codec B
  pub count : Codec ℕ
  pub chosen : A → Codec B
  pub spell : B → List ℕ
  pub Lawful : B → Type 0

pub record KeepCodecs {A B : Type 0} (p : Parts A B) : Type 0 where
  pub number : (w : Width) (limit : ℕ) → IsWide w limit → IsCodec (codec.number w limit)
  pub u8 : IsCodec codec.u8
  pub u16 : IsCodec codec.u16
  pub u32 : IsCodec codec.u32
  pub u64 : IsCodec codec.u64
  pub signed : (w : Width) (fits : ℤ → Bool) → IsSigned w fits p.count → IsCodec (codec.signed w fits p.count)
  pub i32 : IsCodec codec.i32
  pub i64 : IsCodec codec.i64
  pub byte : IsCodec codec.byte
  pub pair : IsCodec p.a → IsCodec p.b → IsCodec (codec.◌then◌ p.a p.b)
  pub then_by : IsCodec p.a → ((x : A) → p.a.Lawful x → IsCodec (p.chosen x)) → IsCodec (codec.then_by p.a p.chosen)
  pub mapped : (to : A → B) (from : B → A) → ((x : A) → p.a.Lawful x → from (to x) ≡ x) → ((y : B) → p.a.Lawful (from y) → to (from y) ≡ y) → IsCodec p.a → IsCodec (codec.mapped to from p.a)
  pub where_true : (test : A → Bool) → IsCodec p.a → IsCodec (codec.where_true test p.a)
  pub times : (n : ℕ) → IsCodec p.a → IsCodec (codec.times n p.a)
  pub counted : IsCodec p.count → IsCodec p.a → IsCodec (codec.counted p.count p.a)
  pub bytes_by : IsCodec p.count → IsCodec (codec.bytes_by p.count)
  pub whole : IsCodec p.a → (bytes : List ℕ) (x : A) → IsBytes bytes → (codec.whole p.a bytes ≡ Some x) ↔ ((bytes ≡ p.a.spell x) × p.a.Lawful x)
  pub sized : (limit : ℕ) → limit < 2 ^ 32 → IsCodec p.a → IsCodec (codec.sized limit p.a)
  pub empty : IsCodec codec.empty
  pub nothing : IsCodec (codec.nothing {A = A})
  pub literal : (text : List ℕ) → IsCodec (codec.literal text)
  pub stated : (to : A → B) → States to p.spell p.Lawful p.a → IsCodec p.a → IsCodec (codec.stated to p.spell p.Lawful p.a)
  pub of_parts : (to : A → B) (from : B → A) → ((y : B) → to (from y) ≡ y) → ((x : A) → from (to x) ≡ x) → ((x : A) → p.a.Lawful x → p.a.spell x ≡ p.spell (to x)) → IsCodec p.a → IsCodec (codec.of_parts to from p.spell p.a)
  pub tagged : (read_behind : ℕ → List ℕ → Option (B × List ℕ)) → IsTagged p.spell p.Lawful read_behind → IsCodec (codec.tagged p.spell p.Lawful read_behind)
  pub on_tag : (k tag : ℕ) (to : A → B) (bytes : List ℕ) (others : Option (B × List ℕ)) (y : B) (rest : List ℕ) → IsCodec p.a → SaysBehind k p.a to p.spell p.Lawful → IsBytes bytes
      → (others ≡ Some (y, rest) → IsBehind p.spell p.Lawful tag bytes y rest) → codec.on_tag k tag p.a to bytes others ≡ Some (y, rest) → IsBehind p.spell p.Lawful tag bytes y rest
  pub optional : IsCodec p.a → IsCodec (codec.optional p.a)
  -- no lawful spelling begins another
  pub apart : IsCodec p.a → (x y : A) (r s : List ℕ) → p.a.Lawful x → p.a.Lawful y → p.a.spell x ++ r ≡ p.a.spell y ++ s → (x ≡ y) × (r ≡ s)
