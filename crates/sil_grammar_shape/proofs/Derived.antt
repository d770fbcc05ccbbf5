-- Nothing is derived by no steps.
use Rattle.std.proofs.Common.{◌≡◌, [], refl, List}
use Rattle.sil_grammar_shape.specs.declared.steps.Step.{Step}
use Rattle.sil_grammar_shape.specs.Derivation.{Derives, nothing}

pub Derives-nothing : {vs : List Step} → Derives [] [] vs → vs ≡ []
Derives-nothing nothing = refl
