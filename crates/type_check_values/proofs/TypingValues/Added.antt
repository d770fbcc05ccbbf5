-- One more type behind those of the results so far.
use Rattle.std.proofs.Common.{◌≡◌, ℕ, ◌+◌, List, [], ◌∷◌, ◌++◌, map, sym, ap, ◌∙◌, append_assoc, arith}
use Rattle.std.specs.Prelude.{Option, option_map, slice_get}
use Rattle.std.specs.List.{range_with_len}
use Rattle.std.proofs.lemmas.List.{map-append}
use Rattle.std.proofs.lemmas.List.FromFn.{map-range_with_len_more}
use Rattle.sil_ast.specs.declared.type_name.TypeName.{TypeName}
use Rattle.type_check_rows.specs.inner.Views.{view_told}
use Rattle.type_check_rows.specs.declared.view.TypeView.{TypeView}
use Rattle.type_check_values.specs.TypingValues.inner.Told.{types_told}

pub one_more : (before : List (Option TypeName)) (types : List (Option TypeView)) (made : List TypeName) (k : ℕ) (view : Option TypeView) →
    types_told types ≡ before ++ map (slice_get made) (range_with_len 0 k) → option_map view_told view ≡ slice_get made k →
    types_told (types ++ view ∷ []) ≡ before ++ map (slice_get made) (range_with_len 0 (k + 1))
one_more before types made k view so_far here =
    map-append (option_map view_told) types (view ∷ [])
    ∙ ap (λ ts. ts ++ option_map view_told view ∷ []) so_far
    ∙ ap (λ t. (before ++ map (slice_get made) (range_with_len 0 k)) ++ t ∷ []) here
    ∙ append_assoc before (map (slice_get made) (range_with_len 0 k)) (slice_get made k ∷ [])
    ∙ ap (λ ts. before ++ ts) (sym (map-range_with_len_more (slice_get made) 0 k k (omega arith)))
