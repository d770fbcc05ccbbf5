-- What holds of a shape where it holds of the shapes in it holds of every shape.
use Rattle.std.proofs.Common.{Option, Some, None}
use Rattle.std.specs.List.{AllByRecursion}
use Rattle.holder_model_values.specs.RunValues.Layers.{CaseLayer}
use Rattle.holder_model_values.specs.RunValues.Shapes.{CaseShapes, NoCase, PlainCase, FullCase, Shape, Shapes, NoMember, Member, listed, listed_cases}
use Rattle.holder_model_values.specs.RunValues.Shapes.{Integer, Reference, Struct, Tuple, Enum, Stored, Unknown}

module _ (P : Shape → Type 0) where
  abbrev pub OfPayload : Option Shape → Type 0
  OfPayload None = Unit {0}
  OfPayload (Some s) = P s

  abbrev pub OfCase : CaseLayer Shape → Type 0
  OfCase c = OfPayload c.payload

  -- it holds of the members, of the payloads, or of what is stored
  abbrev pub InParts : Shape → Type 0
  InParts (Integer width) = Unit {0}
  InParts (Reference class) = Unit {0}
  InParts (Struct name fields) = AllByRecursion P (listed fields)
  InParts (Tuple elements) = AllByRecursion P (listed elements)
  InParts (Enum name cases) = AllByRecursion OfCase (listed_cases cases)
  InParts (Stored storage inner) = P inner
  InParts Unknown = Unit {0}

  module _ (of_whole : (s : Shape) → InParts s → P s) where
    mutual
      pub by_parts : (s : Shape) → P s
      by_parts (Integer width) = of_whole (Integer width) tt
      by_parts (Reference class) = of_whole (Reference class) tt
      by_parts (Struct name fields) = of_whole (Struct name fields) (each_by_parts fields)
      by_parts (Tuple elements) = of_whole (Tuple elements) (each_by_parts elements)
      by_parts (Enum name cases) = of_whole (Enum name cases) (cases_by_parts cases)
      by_parts (Stored storage inner) = of_whole (Stored storage inner) (by_parts inner)
      by_parts Unknown = of_whole Unknown tt

      each_by_parts : (ss : Shapes) → AllByRecursion P (listed ss)
      each_by_parts NoMember = tt
      each_by_parts (Member first others) = (by_parts first, each_by_parts others)

      cases_by_parts : (cs : CaseShapes) → AllByRecursion OfCase (listed_cases cs)
      cases_by_parts NoCase = tt
      cases_by_parts (PlainCase name others) = (tt, cases_by_parts others)
      cases_by_parts (FullCase name payload others) = (by_parts payload, cases_by_parts others)
