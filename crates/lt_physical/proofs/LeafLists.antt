-- The leaves of fields, one after another.
use Rattle.std.proofs.Common.{List, [], ap, append-nil, append_assoc, sym, ℕ, ◌++◌, ◌∙◌, ◌∷◌, ◌≡◌}
use Rattle.lt_terms.specs.Layout.{field_leaves, leaves}
use Rattle.lt_core.specs.View.{view_kind}
use Rattle.lt_core.specs.declared.kind.Kind.{Kind as CodeKind}
use Rattle.lt_tables.specs.Schema.{version_layout}
use Rattle.lt_schema.specs.declared.version.Column.{Column as CodeColumn}
use Rattle.lt_schema.specs.View.{view_columns, view_fields}

pub one_more : (column : ℕ) (path : List ℕ) (fs : List (ℕ × List ℕ × CodeKind)) (f : ℕ × List ℕ × CodeKind)
    → field_leaves column path (view_fields (fs ++ f ∷ [])) ≡ field_leaves column path (view_fields fs) ++ leaves column (path ++ f.0 ∷ []) (view_kind f.2)
one_more column path [] f = append-nil (leaves column (path ++ f.0 ∷ []) (view_kind f.2))
one_more column path (g ∷ fs) f =
    ap (λ ls. leaves column (path ++ g.0 ∷ []) (view_kind g.2) ++ ls) (one_more column path fs f)
    ∙ sym (append_assoc (leaves column (path ++ g.0 ∷ []) (view_kind g.2)) (field_leaves column path (view_fields fs)) (leaves column (path ++ f.0 ∷ []) (view_kind f.2)))

-- the leaves of columns, with one more
pub column_more : (cs : List CodeColumn) (c : CodeColumn) → version_layout (view_columns (cs ++ c ∷ [])) ≡ version_layout (view_columns cs) ++ leaves c.number [] (view_kind c.kind)
column_more [] c = append-nil (leaves c.number [] (view_kind c.kind))
column_more (d ∷ cs) c =
    ap (λ ls. leaves d.number [] (view_kind d.kind) ++ ls) (column_more cs c)
    ∙ sym (append_assoc (leaves d.number [] (view_kind d.kind)) (version_layout (view_columns cs)) (leaves c.number [] (view_kind c.kind)))
