-- No part of memory is broken in an accepted function, so each is followed along its trails.
use Rattle.std.proofs.Common.{refl}
use Rattle.sil_verifier_values.specs.memory_rules_accesses.Sources.{sources_of}
use Rattle.sil_verifier_values.specs.memory_rules_parts.Parts.{subject_of}
use Rattle.sil_verifier_values.specs.memory_rules_parts.Shown.{other_of, part_marks}
use Rattle.sil_verifier_values.specs.memory_rules_parts.declared.part.Part.{Part}
use Rattle.sil_verifier_values.specs.memory_rules.Broken.{at_part}
use Rattle.sil_verifier_values.specs.ownership_kinds_origins.Facts.{facts_in}
use Rattle.sil_ast.specs.declared.function.Function.{Function}
use Rattle.sil_verifier_values.specs.sil_verifier_accepted.AcceptedModules.Shown.{memory}
use Rattle.sil_verifier_values.specs.sil_types_declarations.TypeDefinitions.Declarations.{Declarations}
use Rattle.sil_verifier_trails.specs.RunTrails.inner.Switched.{IsUnbroken}
use Rattle.sil_verifier_trails.proofs.RunTrails.SwitchedTrails.{are_followed}
use Rattle.sil_verifier_trails.specs.AcceptedTrails.inner.Accepted.{IsAcceptedIn}
use Rattle.sil_verifier_trails.specs.AcceptedMemory.inner.PartTrails.{ArePartsFollowed, IsPartOf}

pub part_unbroken : (d : Declarations) (f : Function) → IsAcceptedIn d f → (p : Part) → IsPartOf d f p → IsUnbroken f (part_marks (sources_of d f) (facts_in d f) f p)
part_unbroken d f accepted p there rule walk point item shown =
    accepted.clean (record {
      rule = rule;
      subject = subject_of p;
      other = other_of (sources_of d f) (facts_in d f) f p item;
      point = point;
      walk = walk;
    }) (memory (at_part (record { part = p; there = there; subject = refl; item = item; shown = shown; other = refl })))

pub parts_followed : ArePartsFollowed
parts_followed d f accepted p there t h =
    are_followed f accepted.once (part_marks (sources_of d f) (facts_in d f) f p) (part_unbroken d f accepted p there) t h
