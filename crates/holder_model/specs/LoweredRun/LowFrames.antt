-- Frames of a run of lowered code: the values by their numbers, with no word of who holds what.
use Rattle.std.specs.Prelude.{ℕ, List, [], ◌∷◌, Option, Some, None, Ok, Err, replicate, set, slice_get, unwrap_or}
use Rattle.std.specs.declared.result.Result.{Result}
use Rattle.sil_ast.specs.declared.place.FuncId.{FuncId}
use Rattle.sil_ast.specs.declared.place.PointId.{PointId}
use Rattle.sil_ast.specs.declared.place.ValueId.{ValueId}
use Rattle.holder_model_values.specs.RunValues.Places.{Place}
use Rattle.holder_model.specs.Data.{Datum}
use Rattle.holder_model.specs.declared.lowered_run.low_fault.LowFault.{LowFault}
use Rattle.holder_model.specs.declared.lowered_run.low_fault.LowFault.TheVariants as fault

pub record LowFrame : Type 0 where
  pub function : FuncId
  -- where control stands
  pub at : PointId
  pub values : List (Option Datum)
  -- its slots, the newest first
  pub slots : List Place

abbrev pub value_at : List (Option Datum) → ValueId → Option Datum
value_at values v = unwrap_or (slice_get values v.0) None

abbrev pub there : ValueId → Option Datum → Result Datum LowFault
there v None = Err (fault.Missing v)
there v (Some x) = Ok x

abbrev pub and_others : Result Datum LowFault → Result (List Datum) LowFault → Result (List Datum) LowFault
and_others (Err x) rest = Err x
and_others (Ok x) (Err y) = Err y
and_others (Ok x) (Ok xs) = Ok (x ∷ xs)

-- the operands; the first that has no value is missing
abbrev pub read_all : List (Option Datum) → List ValueId → Result (List Datum) LowFault
read_all values [] = Ok []
read_all values (v ∷ vs) = and_others (there v (value_at values v)) (read_all values vs)

-- so many results; a list of another length doesn't fit
abbrev pub put_all : List ValueId → List Datum → List (Option Datum) → Option (List (Option Datum))
put_all [] [] values = Some values
put_all [] (x ∷ xs) values = None
put_all (v ∷ vs) [] values = None
put_all (v ∷ vs) (x ∷ xs) values = put_all vs xs (set values v.0 (Some x))

abbrev pub no_values : ℕ → List (Option Datum)
no_values n = replicate n None
