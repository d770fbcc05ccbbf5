-- What a refusal says.
use Rattle.std.specs.Prelude.{List, reverse, take}
use Rattle.sil_grammar_classes.specs.declared.classes.Class.{Class}
use Rattle.sil_grammar_shape.specs.declared.machine.ShapeRefusal.{ShapeRefusal}
use Rattle.sil_grammar_shape.specs.declared.machine.ShapeRefusal.TheVariants.{Memory, FirstBad}
use Rattle.sil_grammar_shape.specs.inner.Begun.{LeadsTo}
use Rattle.sil_grammar_shape.specs.Derivation.{IsFirstBad}

abbrev pub IsRefusal : List Class → ShapeRefusal → Type 0
IsRefusal classes Memory = Unit {0}
IsRefusal classes (FirstBad place front) = IsFirstBad classes place × LeadsTo (take place classes) front.steps.items (reverse front.left.items)
