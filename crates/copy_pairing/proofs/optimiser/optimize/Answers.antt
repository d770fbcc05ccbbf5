use Rattle.std.proofs.Common.{ap, ◌∙◌}
use Rattle.sil_types_declarations.specs.TypeDefinitions.Declarations.{declarations_of}
use Rattle.copy_pairing.proofs.Passed.{declared_again}
use Rattle.copy_pairing.proofs.optimiser.optimize.Goals as goal

pub of_verified-requires : goal.of_verified-requires
of_verified-requires c = record {
  verified = c.in-Ok.ensures.verified;
  declarations = declared_again c.args.c c.in-Ok.m c.into_parts-old.result.1 c.in-Ok.ensures.verified c.in-Ok.ensures.declarations
      (c.into_parts-old.ensures.verified.declarations.copied ∙ ap declarations_of c.into_parts-old.ensures.module);
}
