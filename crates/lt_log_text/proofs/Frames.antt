-- What a line says has a frame's content, and one frame where its body is not too long.
use Rattle.std.proofs.Common.{Bool, List, None, Option, Some, ap, false, refl, sym, true, ℕ, ◌<◌, ◌∙◌, ◌≡◌}
use Rattle.std.specs.Prelude.{IsTrue, length, nat_le, option_and_then, ◌&&◌}
use Rattle.std.proofs.lemmas.Bool.{lt-leb}
use Rattle.serde_json.specs.Data.{Data}
use Rattle.lt_terms.specs.declared.Format.TheVariants as format
use Rattle.lt_terms.specs.Log.{IsFrame, Item, body, is_content, max_body, spelled}
use Rattle.lt_tables.specs.Schema.{when}
use Rattle.lt_words.specs.SchemaText.{as_members}
use Rattle.lt_schema_json.specs.Reading.{json_of}
use Rattle.lt_log_text.specs.Lines.{frame_of_item, frame_of_line, item_in, item_of_line, lawful, record_in}

kept : (b : Bool) (j i : Item) → when b j ≡ Some i → IsTrue b × (j ≡ i)
kept true j i h = (refl, cc)
kept false j i h = absurd cc

lawful_some : (o : Option Item) (i : Item) → option_and_then lawful o ≡ Some i → IsTrue (is_content format.One i)
lawful_some None i h = absurd cc
lawful_some (Some j) i h = let k = kept (is_content format.One j) j i h in rw (sym k.1) k.0

item_some : (o : Option Data) (i : Item) → option_and_then item_in o ≡ Some i → IsTrue (is_content format.One i)
item_some None i h = absurd cc
item_some (Some d) i h = lawful_some (option_and_then record_in (as_members d)) i h

pub content_of : (t : List ℕ) (i : Item) → item_of_line t ≡ Some i → IsTrue (is_content format.One i)
unfolding item_of_line
content_of t i h = item_some (json_of t) i h

pub frame_said : (t : List ℕ) (i : Item) (bytes : List ℕ) → item_of_line t ≡ Some i → IsFrame format.One i bytes → frame_of_line t ≡ Some bytes
frame_said t i bytes h f = ap (option_and_then frame_of_item) h ∙ ap (λ b. when b (spelled i)) f.lawful ∙ ap Some (sym f.spells)

no_frame : (b c : Bool) (x : List ℕ) → c ≡ false → when (b && c) x ≡ None
no_frame true c x h = rw h refl
no_frame false c x h = refl

pub frame_lacks : (t : List ℕ) (i : Item) → item_of_line t ≡ Some i → max_body format.One < length (body i) → frame_of_line t ≡ None
frame_lacks t i h long = ap (option_and_then frame_of_item) h ∙ no_frame (is_content format.One i) (nat_le (length (body i)) (max_body format.One)) (spelled i) (lt-leb _ _ long)
