-- Numbered form: what holds of a module that was read, before any rule of types or ownership.
use Rattle.sil_ast.specs.declared.module.Module.{Module}
use Rattle.numbered_form.specs.Numbering.{AreNumbered}
use Rattle.numbered_form.specs.inner.Parts.{HaveTheirParts}
use Rattle.numbered_form.specs.inner.Literals.{AreLiteralsInRange}
use Rattle.numbered_form.specs.inner.Fields.{AreStructFieldsStrong}
use Rattle.numbered_form.specs.Names.{AreNamesSpelled, AreNamesOnce}
use Rattle.numbered_form.specs.inner.Types.{AreTypesWritten}
use Rattle.numbered_form.specs.inner.Functions.{AreFunctionsFormed}
use Rattle.numbered_form.specs.inner.Limits.{AreLimitsKept}

pub record IsNumbered (m : Module) : Type 0 where
  pub numbering : AreNumbered m
  pub parts : HaveTheirParts m
  pub literals : AreLiteralsInRange m
  pub fields : AreStructFieldsStrong m
  pub names : AreNamesSpelled m
  pub once : AreNamesOnce m
  pub types : AreTypesWritten m
  pub functions : AreFunctionsFormed m
  pub limits : AreLimitsKept m
