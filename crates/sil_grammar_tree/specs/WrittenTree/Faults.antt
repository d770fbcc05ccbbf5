-- What may be wrong with a text that has the shape of a module: numbers out of range, and tokens that pass a limit.
use Rattle.std.specs.Prelude.{ℕ, List, [], ◌∷◌, Option, Some, None, Bool, if◌then◌else◌, ◌&&◌, ◌||◌, ◌==◌, nat_lt, slice_get}
use Rattle.std.specs.Option.{option_map}
use Rattle.sil_ast.specs.declared.place.Place.{Place}
use Rattle.sil_grammar_tree.specs.declared.written_tree.fault.Fault.{Fault}
use Rattle.sil_grammar_tree.specs.declared.written_tree.fault.FaultKind.{FaultKind}
use Rattle.sil_grammar_tree.specs.declared.written_tree.fault.FaultKind.TheVariants.{NumberRange, Limit}
use Rattle.sil_rules.specs.declared.limit_word.LimitWord.{LimitWord}
use Rattle.sil_rules.specs.declared.limit_word.LimitWord.TheVariants as limit

-- where one token passes two limits, the order is this
unfoldable pub limit_rank : LimitWord → ℕ
limit_rank limit.Text = 0
limit_rank limit.Name = 1
limit_rank limit.Declarations = 2
limit_rank limit.Members = 3
limit_rank limit.Arguments = 4
limit_rank limit.Functions = 5
limit_rank limit.Blocks = 6
limit_rank limit.Instructions = 7
limit_rank limit.Values = 8
limit_rank limit.Depth = 9
limit_rank limit.Leaves = 10

unfoldable pub rank : FaultKind → ℕ
rank (Limit what) = limit_rank what
rank _ = 0

-- a fault at an earlier place, or at the same place and of a lower rank
abbrev pub comes_before : Fault → Fault → Bool
comes_before a b =
    nat_lt a.place.offset b.place.offset
    || ((a.place.offset == b.place.offset) && nat_lt (rank a.kind) (rank b.kind))

-- the first of two faults
unfoldable pub earlier : Option Fault → Option Fault → Option Fault
earlier None b = b
earlier (Some a) None = Some a
earlier (Some a) (Some b) = if comes_before b a then Some b else Some a

-- the first of some faults
abbrev pub earliest : List (Option Fault) → Option Fault
earliest [] = None
earliest (fault ∷ faults) = earlier fault (earliest faults)

abbrev pub fault : FaultKind → Place → Fault
fault kind place = record { kind = kind; place = place }

-- the token that stands at the place behind the last that the limit allows
abbrev pub passed : LimitWord → ℕ → List Place → Option Fault
passed what most places = option_map (fault (Limit what)) (slice_get places most)

-- a number that has no value in its range
abbrev pub out_of_range : {A : Type 0} → Option A → Place → Option Fault
out_of_range (Some value) place = None
out_of_range None place = Some (fault NumberRange place)
