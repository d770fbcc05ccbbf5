-- What is printed reads back.
use Rattle.sil_ast.specs.declared.module.Module.{Module}
use Rattle.sil_printer.specs.CanonicalModules.{canonical_text}
use Rattle.numbered_form.specs.inner.NumberedForm.{IsNumbered}
use Rattle.sil_grammar.specs.Spells.{Spells}

-- a module in numbered form is spelled by its canonical text
abbrev pub ArePrintedSpelled : Type 0
ArePrintedSpelled = (m : Module) → IsNumbered m → Spells m (canonical_text m)
