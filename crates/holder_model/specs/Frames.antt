-- The frames of a run by holders: entries by the values' numbers, and how an item takes and makes them.
use Rattle.std.specs.Prelude.{ℕ, List, [], ◌∷◌, Bool, true, false, cond, Option, Some, None, Ok, Err}
use Rattle.std.specs.Prelude.{replicate, set, slice_get, unwrap_or}
use Rattle.std.specs.List.{list_any}
use Rattle.std.specs.declared.result.Result.{Result}
use Rattle.instruction_table.specs.declared.entries.Role.{Role}
use Rattle.instruction_table.specs.declared.entries.Role.TheVariants as role
use Rattle.sil_ast.specs.declared.place.FuncId.{FuncId}
use Rattle.sil_ast.specs.declared.place.ObjectId.{ObjectId}
use Rattle.sil_ast.specs.declared.place.ValueId.{ValueId}
use Rattle.memory_rules_accesses.specs.argument_conventions.declared.row.AddressRow.{AddressRow}
use Rattle.memory_rules_accesses.specs.sil_cfg.declared.item.Item.{Item}
use Rattle.memory_rules_accesses.specs.sil_cfg_items.declared.taken.Taken.{Taken}
use Rattle.ownership_kinds_origins.specs.ownership_kinds_chains.OwnershipChains.Facts.{known_or}
use Rattle.ownership_kinds_origins.specs.ownership_kinds_chains.declared.ownership_chains.facts.Facts.{Facts}
use Rattle.ownership_kinds_origins.specs.ownership_kinds_chains.OwnershipMarks.Marks as marks
use Rattle.holder_model_values.specs.sil_types_declarations.declared.type_definitions.kind.Kind.{Kind}
use Rattle.holder_model_values.specs.sil_types_declarations.declared.type_definitions.kind.Kind.TheVariants as kind
use Rattle.holder_model_values.specs.RunValues.Memory.{Memory, is_dead}
use Rattle.holder_model_values.specs.RunValues.Places.{Home, Inside, OnStack, Place}
use Rattle.holder_model_values.specs.RunValues.Values.{references_of}
use Rattle.holder_model.specs.Data.{Datum, ValueOf, AddressOf, FunctionOf, references_in}
use Rattle.holder_model.specs.Faults.{HolderFault, ConsumesLent, NamesDead, NoEntry, OverwritesHeld, WrongShape}

-- of an Owned value, of a Guaranteed one or the address of a field, of any other one. Of these only a held one holds what it names
pub data Entry : Type 0 where
  Gone : Entry
  Held : (x : Datum) → Entry
  Lent : (x : Datum) → Entry
  Plain : (x : Datum) → Entry

-- a place that is lent to a callee, and by which row of the conventions
pub record LentPlace : Type 0 where
  pub place : Place
  pub row : AddressRow

pub record Frame : Type 0 where
  pub function : FuncId
  -- the items that were made, the newest first
  pub trail : List Item
  pub entries : List Entry
  -- its slots, the newest first
  pub slots : List Place
  -- while a callee runs: the places that are lent to it
  pub lent : List LentPlace

abbrev pub entry_at : List Entry → ValueId → Entry
entry_at entries v = unwrap_or (slice_get entries v.0) Gone

abbrev pub datum_in : Entry → Option Datum
datum_in Gone = None
datum_in (Held x) = Some x
datum_in (Lent x) = Some x
datum_in (Plain x) = Some x

abbrev pub is_held : Entry → Bool
is_held Gone = false
is_held (Held x) = true
is_held (Lent x) = false
is_held (Plain x) = false

-- what a held entry holds
abbrev pub held_references : Entry → List ObjectId
held_references Gone = []
held_references (Held x) = references_in x
held_references (Lent x) = []
held_references (Plain x) = []

-- where something was had, go on
abbrev pub with_ok : {A B : Type 0} → (A → Result B HolderFault) → Result A HolderFault → Result B HolderFault
with_ok go (Ok x) = go x
with_ok go (Err fault) = Err fault

abbrev pub has_any : {A : Type 0} → List A → Bool
has_any [] = false
has_any (x ∷ xs) = true

abbrev pub is_consumed : Role → Bool
is_consumed role.Consumed = true
is_consumed role.Used = false
is_consumed role.Lent = false
is_consumed role.Forwarded = false
is_consumed role.AddressRole = false
is_consumed role.AnyRole = false
is_consumed role.ScopeRole = false
is_consumed role.ByParameter = false
is_consumed role.Counted = false

-- an entry that ends is taken away; of a value without a kind it stays
abbrev pub ended_entry : ValueId → List Entry → Entry → Result (List Entry) HolderFault
ended_entry v entries Gone = Err NoEntry
ended_entry v entries (Held x) = Ok (set entries v.0 Gone)
ended_entry v entries (Lent x) = Ok (set entries v.0 Gone)
ended_entry v entries (Plain x) = Ok entries

-- an operand that doesn't end stays, and is there. A lent one isn't consumed
abbrev pub used_datum : Role → Entry → Result Datum HolderFault
used_datum r Gone = Err NoEntry
used_datum r (Held x) = Ok x
used_datum r (Lent x) = cond (is_consumed r) (Err ConsumesLent) (Ok x)
used_datum r (Plain x) = Ok x

abbrev pub datum_or_fault : Option Datum → Result Datum HolderFault
datum_or_fault None = Err NoEntry
datum_or_fault (Some x) = Ok x

abbrev pub any_dead : Memory → List ObjectId → Bool
any_dead m os = list_any (is_dead m) os

abbrev pub unless_dead : Memory → Datum → Result Datum HolderFault
unless_dead m x = cond (any_dead m (references_in x)) (Err NamesDead) (Ok x)

abbrev pub and_more : Datum → Result (List Datum) HolderFault → Result (List Datum) HolderFault
and_more x (Ok xs) = Ok (x ∷ xs)
and_more x (Err fault) = Err fault

-- the operands of an item, in order, and the entries without those that ended
pub record Operands : Type 0 where
  pub given : List Datum
  pub left : List Entry

abbrev pub plain_address : Home → Datum → Entry
plain_address OnStack x = Plain x
plain_address (Inside o) x = Lent x

abbrev pub plain_entry : Datum → Result Entry HolderFault
plain_entry (ValueOf x) = cond (has_any (references_of x)) (Err WrongShape) (Ok (Plain (ValueOf x)))
plain_entry (AddressOf p) = Ok (plain_address p.home (AddressOf p))
plain_entry (FunctionOf g) = Ok (Plain (FunctionOf g))

abbrev pub made_entry : Kind → Datum → Result Entry HolderFault
made_entry kind.Owned x = Ok (Held x)
made_entry kind.Guaranteed x = Ok (Lent x)
made_entry kind.Plain x = plain_entry x

abbrev pub put_entry : List Entry → ValueId → Entry → Result (List Entry) HolderFault
put_entry entries v e = cond (is_held (entry_at entries v)) (Err OverwritesHeld) (Ok (set entries v.0 e))

module _ (facts : ValueId → Option Facts) where
  -- the marks of the item say that the operand ends
  abbrev pub ends : Taken → Bool
  ends t = has_any (marks.ended facts t)

  -- the entries when all have ended that end, in operand order
  abbrev pub without_ended : List Taken → List Entry → Result (List Entry) HolderFault
  without_ended [] entries = Ok entries
  without_ended (t ∷ ts) entries =
      cond (ends t) (with_ok (without_ended ts) (ended_entry t.value entries (entry_at entries t.value))) (without_ended ts entries)

  abbrev pub operand : Memory → List Entry → List Entry → Taken → Result Datum HolderFault
  operand m before left t =
      with_ok (unless_dead m) (cond (ends t) (datum_or_fault (datum_in (entry_at before t.value))) (used_datum t.role (entry_at left t.value)))

  abbrev pub operand_data : Memory → List Entry → List Entry → List Taken → Result (List Datum) HolderFault
  operand_data m before left [] = Ok []
  operand_data m before left (t ∷ ts) = with_ok (λ x. and_more x (operand_data m before left ts)) (operand m before left t)

  -- ends come first, in operand order, and then uses
  abbrev pub operands_of : Memory → List Entry → List Taken → Result Operands HolderFault
  operands_of m entries ts =
      with_ok (λ left. with_ok (λ xs. Ok (record { given = xs; left = left })) (operand_data m entries left ts)) (without_ended ts entries)

  -- a value begins: its entry is as its kind asks, and none is held there
  abbrev pub result_put : ValueId → Datum → List Entry → Result (List Entry) HolderFault
  result_put v x entries = with_ok (put_entry entries v) (made_entry (known_or facts v).kind x)

  abbrev pub results_put : List ValueId → List Datum → List Entry → Result (List Entry) HolderFault
  results_put [] [] entries = Ok entries
  results_put [] (x ∷ xs) entries = Err WrongShape
  results_put (v ∷ vs) [] entries = Err WrongShape
  results_put (v ∷ vs) (x ∷ xs) entries = with_ok (results_put vs xs) (result_put v x entries)

-- so many values, and none of them is there
abbrev pub no_entries : ℕ → List Entry
no_entries n = replicate n Gone
