-- The types of the direct results so far are there.
use Rattle.std.proofs.Common.{◌≡◌, ◌++◌, drop}
use Rattle.sil_types_declarations.specs.TypeDefinitions.Mentions.{direct_types}
use Rattle.module_runner.proofs.runner.direct_types.Given as goal

abbrev pub invariant-loop-given : goal.invariant-loop-given
invariant-loop-given l = l.types ++ direct_types (drop l.given-index l.results) ≡ direct_types l.results
