-- What is asked of an instruction so that its change is counted: what its operands hold that end is what its results bring, and its places are as
-- its row needs them. Behind it the stored numbers are those that the lowered run has.
use Rattle.std.specs.Prelude.{◌≡◌, ℕ, ◌+◌, List, [], ◌∷◌, true, false, length, Option, Some}
use Rattle.memory_rules_parts.specs.ownership_kinds_chains.declared.ownership_chains.facts.Facts.{Facts}
use Rattle.sil_ast.specs.declared.decl.Storage.{Storage}
use Rattle.sil_ast.specs.declared.decl.Storage.TheVariants as storage
use Rattle.sil_ast.specs.declared.inst.Inst.{Inst}
use Rattle.sil_ast.specs.declared.place.ObjectId.{ObjectId}
use Rattle.sil_ast.specs.declared.place.ValueId.{ValueId}
use Rattle.sil_cfg_items.specs.declared.taken.Taken.{Taken}
use Rattle.sil_types_declarations.specs.TypeDefinitions.Declarations.{Declarations}
use Rattle.holder_model.specs.holder_model_values.RunValues.Cells.{Cell, cell_count}
use Rattle.holder_model.specs.holder_model_values.RunValues.Cells as cells
use Rattle.holder_model.specs.holder_model_values.RunValues.Memory.{Memory}
use Rattle.holder_model.specs.holder_model_values.RunValues.Places.{Place, cells_at}
use Rattle.holder_model.specs.holder_model_values.RunValues.Shapes.{Shape}
use Rattle.holder_model.specs.holder_model_values.RunValues.Values.{Value}
use Rattle.memory_rules_parts.specs.memory_rules_accesses.declared.access.Operation.{Operation}
use Rattle.holder_model.specs.Data.{AddressOf, Datum, ValueOf}
use Rattle.holder_model.specs.Effects as effects
use Rattle.holder_model.specs.Effects.{Change, effect_of}
use Rattle.holder_model.specs.Frames.{Entry}
use Rattle.holder_model.specs.Holders.{in_cells, in_memory, of_references}
use Rattle.holder_model.specs.MemoryEffects.{copies_with, effect, operation_done, takes}
use Rattle.holder_model.specs.ModuleShapes.{ModuleShapes}
use Rattle.holder_model.specs.Outcomes.{Numbers}
use Rattle.holder_model.specs.declared.row_effect.RowEffect.{RowEffect}
use Rattle.holder_model.specs.declared.row_effect.RowEffect.TheVariants as row
use Rattle.holder_model.specs.LoweredRun.LowEffects.{is_first_write, stored_behind}
use Rattle.holder_model_laws.specs.HolderLaws.inner.Counts.Keeping.{IsWithin}
use Rattle.holder_model_laws.specs.HolderLaws.inner.Counts.Naming.{IsReadStrongly, in_data}
use Rattle.holder_model_laws.specs.HolderLaws.inner.Counts.Taking.{references_begun, references_ended}
use Rattle.holder_model_laws.specs.StoredCounts.inner.Items.{AreMade, AreNamesBehind}
use Rattle.holder_model_laws.specs.StoredCounts.inner.Numbers.{AreNamesStored}

-- these cells keep nothing in this way
abbrev pub KeepNone : Storage → List Cell → Type 0
KeepNone how kept = (weight : ObjectId → ℕ) → in_cells weight how kept ≡ 0

-- ---- operands and results

module _ (facts : ValueId → Option Facts) (entries : List Entry) (ts : List Taken) (vs : List ValueId) (xs : List Datum) where
  -- no operand that ends holds anything
  abbrev pub TakesNone : Type 0
  TakesNone = (weight : ObjectId → ℕ) → of_references weight (references_ended facts entries ts) ≡ 0

  -- what the operands name is what those hold that end
  abbrev pub TakesAll : Type 0
  TakesAll = (weight : ObjectId → ℕ) → of_references weight (references_ended facts entries ts) ≡ in_data weight xs

  -- no result holds anything
  abbrev pub BringsNone : List Datum → Type 0
  BringsNone rs = (weight : ObjectId → ℕ) → of_references weight (references_begun facts vs rs) ≡ 0

  -- what the results name is what they hold
  abbrev pub BringsAll : List Datum → Type 0
  BringsAll rs = (weight : ObjectId → ℕ) → of_references weight (references_begun facts vs rs) ≡ in_data weight rs

  -- what is handed on is held before and behind, or neither
  pub data HandsOn (rs : List Datum) : Type 0 where
    all : TakesAll → BringsAll rs → HandsOn rs
    none : TakesNone → BringsNone rs → HandsOn rs

-- ---- places

module _ (m : Memory) (stored : List Numbers) where
  -- the slot that is removed holds nothing
  pub record IsRemoved (p : Place) : Type 0 where
    pub within : IsWithin m p
    pub none : (how : Storage) → KeepNone how (cells_at m p)

  -- what the place names has numbers
  pub record IsTaken (p : Place) : Type 0 where
    pub within : IsWithin m p
    pub named : AreNamesStored stored (cells_at m p)

  -- so has what is written. What is written for the first time takes no old name away
  pub record IsWritten (o : Operation) (x : Value) (p : Place) : Type 0 where
    pub within : IsWithin m p
    pub as_many : length ((cells.in_cells p.shape).cells x) ≡ cell_count p.shape
    pub named : AreNamesStored stored (cells_at m p)
    pub names : AreNamesStored stored ((cells.in_cells p.shape).cells x)
    pub first : is_first_write o ≡ true → KeepNone storage.Weak (cells_at m p) × KeepNone storage.Unowned (cells_at m p)

-- ---- rows

module _ (facts : ValueId → Option Facts) (entries : List Entry) (ts : List Taken) (vs : List ValueId) (d : Declarations) (shapes : ModuleShapes)
    (values : List Shape) (m : Memory) (i : Inst) (xs : List Datum) (stored : List Numbers) where
  -- a value is taken, copied, or read: of a trivial type, or as a scope
  pub data Loads (o : Operation) (p : Place) (rs : List Datum) : Type 0 where
    takes_it : takes o ≡ true → copies_with i.qualifier ≡ false → BringsAll facts entries ts vs xs rs → IsReadStrongly m p → Loads o p rs
    copies_it : takes o ≡ false → copies_with i.qualifier ≡ true → BringsAll facts entries ts vs xs rs → Loads o p rs
    reads_it : takes o ≡ false → copies_with i.qualifier ≡ false → BringsNone facts entries ts vs xs rs → Loads o p rs

  -- the value's cells hold strongly what the operand held that ended
  pub record Stores (o : Operation) (x : Value) (p : Place) : Type 0 where
    pub written : IsWritten m stored o x p
    pub held : (weight : ObjectId → ℕ)
        → of_references weight (references_ended facts entries ts) ≡ in_cells weight storage.Strong ((cells.in_cells p.shape).cells x)

  -- at the one operand's place, by the operation that is done there
  abbrev pub AtPlace : (Operation → Place → Type 0) → Type 0
  AtPlace Asks = (o : Operation) (p : Place) → operation_done d shapes values m i ≡ Some o → xs ≡ AddressOf p ∷ [] → Asks o p

  -- what is asked, by what the row does and the results that it gives
  abbrev pub Owns : RowEffect → List Datum → Type 0
  Owns row.NoEffect rs = TakesNone facts entries ts vs xs
  Owns row.GivesLiteral rs = TakesNone facts entries ts vs xs
  Owns row.GivesFunction rs = TakesNone facts entries ts vs xs
  Owns row.Computes rs = TakesNone facts entries ts vs xs
  Owns row.TrapsWhereSet rs = TakesNone facts entries ts vs xs
  Owns row.MakesObject rs = TakesNone facts entries ts vs xs × BringsAll facts entries ts vs xs rs
  Owns row.MakesSlot rs = TakesNone facts entries ts vs xs
  Owns row.RemovesSlot rs = TakesNone facts entries ts vs xs × ((p : Place) → xs ≡ AddressOf p ∷ [] → IsRemoved m stored p)
  Owns row.GivesOperand rs = HandsOn facts entries ts vs xs rs
  Owns row.CopiesOperand rs = TakesNone facts entries ts vs xs × BringsAll facts entries ts vs xs rs
  Owns row.RetainsOperand rs = ⊥
  Owns row.DropsOperand rs = TakesAll facts entries ts vs xs
  Owns row.LoadsValue rs = TakesNone facts entries ts vs xs × AtPlace (λ o p. Loads o p rs)
  Owns row.StoresValue rs = (o : Operation) (x : Value) (p : Place) → operation_done d shapes values m i ≡ Some o → xs ≡ ValueOf x ∷ AddressOf p ∷ []
      → Stores o x p
  Owns row.DestroysPlace rs = TakesNone facts entries ts vs xs × AtPlace (λ o p. (takes o ≡ true) × IsTaken m stored p)
  Owns row.LoadsName rs = TakesNone facts entries ts vs xs × BringsAll facts entries ts vs xs rs
      × AtPlace (λ o p. IsTaken m stored p × KeepNone storage.Strong (cells_at m p))
  Owns row.Groups rs = HandsOn facts entries ts vs xs rs
  Owns row.ChoosesCase rs = HandsOn facts entries ts vs xs rs
  Owns row.GivesMember rs = TakesNone facts entries ts vs xs × BringsNone facts entries ts vs xs rs
  Owns row.GivesMembers rs = HandsOn facts entries ts vs xs rs
  Owns row.AddressesMember rs = TakesNone facts entries ts vs xs × BringsNone facts entries ts vs xs rs
  Owns row.AddressesField rs = TakesNone facts entries ts vs xs × BringsNone facts entries ts vs xs rs
  Owns row.CallsFunction rs = Unit {0}

  -- what the change makes anew, how it is balanced, and what the lowered run makes of stored numbers
  pub record IsRowCounted (c : Change) : Type 0 where
    pub made : List ObjectId
    pub are_made : AreMade m c.memory made
    pub balance : (weight : ObjectId → ℕ)
        → of_references weight (references_begun facts vs c.results) + of_references weight c.dropped + in_memory weight storage.Strong c.memory
        ≡ of_references weight (references_ended facts entries ts) + of_references weight c.retained + of_references weight made
        + in_memory weight storage.Strong m
    pub named : AreNamesBehind m c.memory stored (stored_behind d shapes values m i xs stored)

-- each change of an instruction that keeps what is asked
abbrev pub AreRowsCounted : Type 0
AreRowsCounted = (facts : ValueId → Option Facts) (entries : List Entry) (ts : List Taken) (vs : List ValueId) (d : Declarations) (shapes : ModuleShapes)
    (values : List Shape) (m : Memory) (i : Inst) (xs : List Datum) (stored : List Numbers) (c : Change)
    → effect d shapes values m i xs ≡ effects.Makes c → Owns facts entries ts vs d shapes values m i xs stored (effect_of i.op) c.results
    → IsRowCounted facts entries ts vs d shapes values m i xs stored c
