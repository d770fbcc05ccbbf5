-- Types: `Builtin.Int64`, `Node`, `Optional<T>`, `(A, B)`, `()`, `@sil_weak T`, `@sil_unowned T`, `*T`.
use Rattle.std.specs.Prelude.{ℕ, ◌==◌, List, [], ◌∷◌, ◌++◌, Bool, true, false, codes, decimal}
use Rattle.sil_ast.specs.declared.type_name.TypeName.{TypeName, fold-TypeName}
use Rattle.sil_ast.specs.declared.type_name.TypeName.TheOpen.{TypeName-F, Int, Named, Optional, Tuple, Weak, Unowned, Address}
use Rattle.sil_printer.specs.Words.{in_parens}

-- the text of a type whose parts have the texts that stand in their places
abbrev pub type_over : TypeName-F (List ℕ) → List ℕ
type_over (Int width) = codes "Builtin.Int" ++ decimal width
type_over (Named name) = name
type_over (Optional text) = codes "Optional<" ++ text ++ codes ">"
type_over (Tuple texts) = in_parens (λ text. text) texts
type_over (Weak text) = codes "@sil_weak " ++ text
type_over (Unowned text) = codes "@sil_unowned " ++ text
type_over (Address text) = codes "*" ++ text

abbrev pub type_text : TypeName → List ℕ
type_text = fold-TypeName (List ℕ) type_over

-- whether a text begins with a parenthesis
abbrev pub opens_parens : List ℕ → Bool
opens_parens [] = false
opens_parens (byte ∷ bytes) = byte == 40

-- whether a type is a tuple of two or more
abbrev pub several_over : TypeName-F Bool → Bool
several_over (Tuple (first ∷ second ∷ others)) = true
several_over other = false

abbrev pub is_several : TypeName → Bool
is_several = fold-TypeName Bool several_over
