-- The lines before the functions.
use Rattle.std.proofs.Common.{◌≡◌, ℕ, List, [], ◌∷◌, codes, refl}
use Rattle.std.specs.List.{flat_map}
use Rattle.sil_printer.specs.Words.{line}
use Rattle.sil_command_generator.specs.inner.Heads.{head_text}
use Rattle.sil_command_generator.proofs.TypeTexts.{types}

abbrev pub head_lines : List ℕ
head_lines = flat_map line (
    codes "sil_stage canonical"
    ∷ []
    ∷ codes "import Builtin"
    ∷ codes "import Swift"
    ∷ []
    ∷ codes "class Node {"
    ∷ codes "  var value: Builtin.Int64"
    ∷ codes "  var next: Optional<Node>"
    ∷ codes "}"
    ∷ []
    )

pub head_is : head_text ≡ head_lines
head_is = simp (types) refl
