-- Items that fill no field of a new object: those that store nothing, and a store at a place that is no field.
use Rattle.std.proofs.Common.{◌≡◌, ℕ, List, refl, sym, ap, ◌∙◌, subst, Bool, true, false, ◌&&◌, Option, Some, None}
use Rattle.std.proofs.lemmas.Bool.{false≢true, true≢false}
use Rattle.std.proofs.lemmas.Option.{none-some, same_Some}
use Rattle.sil_verifier_frames.specs.memory_rules_accesses.Locations.{cell_by, cell_of, location_of}
use Rattle.sil_verifier_frames.specs.memory_rules_accesses.Operations.{access_kind_of, load_operation, operation_by}
use Rattle.sil_verifier_frames.specs.memory_rules_accesses.Rows.{has_by, has_operation, is_part}
use Rattle.sil_verifier_frames.specs.memory_rules_accesses.Sources.{is_trivial_at, source_at, sources_of}
use Rattle.sil_verifier_frames.specs.memory_rules_accesses.declared.access.Operated.{Operated}
use Rattle.sil_verifier_frames.specs.memory_rules_accesses.declared.access.Operation.{Operation}
use Rattle.sil_verifier_frames.specs.memory_rules_accesses.declared.access.Operation.TheVariants as operation
use Rattle.sil_verifier_frames.specs.memory_rules_accesses.declared.columns.AccessKind.{AccessKind}
use Rattle.sil_verifier_frames.specs.memory_rules_accesses.declared.columns.AccessKind.TheVariants as access
use Rattle.sil_verifier_frames.specs.memory_rules_accesses.declared.location.Cell.{Cell}
use Rattle.sil_verifier_frames.specs.memory_rules_accesses.declared.location.Location.{Location}
use Rattle.sil_verifier_frames.specs.memory_rules_accesses.declared.source.Source.{Source}
use Rattle.sil_verifier_frames.specs.memory_rules_accesses.declared.source.Source.TheVariants as source
use Rattle.sil_verifier_frames.specs.memory_rules_parts.Building.{fills}
use Rattle.sil_verifier_frames.specs.memory_rules_parts.Contents.{counts_at_part, operation_mark, same_cell}
use Rattle.sil_verifier_frames.specs.memory_rules_parts.Switches.{is_same, is_turned_on, when}
use Rattle.sil_verifier_frames.proofs.sil_verifier_trails.AcceptedPlaces.Done.{IsDoneBy, done_by, of_call, of_row}
use Rattle.sil_verifier_frames.proofs.sil_verifier_trails.AcceptedPlaces.ItemStacks.{accepted_in}
use Rattle.sil_verifier_frames.proofs.sil_verifier_trails.AcceptedPlaces.OperationsRight.{rows_right}
use Rattle.sil_verifier_frames.specs.sil_verifier_values.inner.Known.{IsAcceptedBody}
use Rattle.argument_conventions.specs.declared.row.AddressRow.{AddressRow}
use Rattle.instruction_table.specs.Forms.{is_terminator}
use Rattle.instruction_table.specs.declared.op.Op.{Op}
use Rattle.instruction_table.specs.declared.op.Op.TheVariants as op
use Rattle.sil_cfg_items.specs.Parts.{item_inst}
use Rattle.reach_engine_marks.specs.declared.path_patterns.mark.Mark.{Mark}
use Rattle.sil_ast.specs.declared.function.Function.{Function}
use Rattle.sil_ast.specs.declared.inst.Inst.{Inst}
use Rattle.sil_ast.specs.declared.module.Module.{Module}
use Rattle.sil_ast.specs.declared.inst.Qualifier.{Qualifier}
use Rattle.sil_ast.specs.declared.inst.Qualifier.TheVariants as word
use Rattle.sil_ast.specs.declared.place.ValueId.{ValueId}
use Rattle.sil_cfg.specs.declared.item.Item.{Item}
use Rattle.sil_types_declarations.specs.TypeDefinitions.Declarations.{Declarations, declarations_of}
use Rattle.sil_verifier_runs.specs.inner.Built.Laws.{FillsNone}

-- ---- operations

-- the operation leaves no place full that was empty, wherever it is done
abbrev pub never_fills : Operation → Bool
never_fills operation.FirstWrite = false
never_fills operation.Read = true
never_fills operation.Lend = true
never_fills operation.Write = false
never_fills operation.TrivialStore = false
never_fills (operation.Handed row) = false
never_fills operation.Take = true

quiet_mark : (o : Operation) → never_fills o ≡ true → (trivial part b : Bool) → is_turned_on (when b (operation_mark trivial part o)) ≡ false
quiet_mark operation.FirstWrite e trivial part b = absurd (false≢true e)
quiet_mark operation.Read e trivial part true = refl
quiet_mark operation.Read e trivial part false = refl
quiet_mark operation.Lend e trivial part true = refl
quiet_mark operation.Lend e trivial part false = refl
quiet_mark operation.Write e trivial part b = absurd (false≢true e)
quiet_mark operation.TrivialStore e trivial part b = absurd (false≢true e)
quiet_mark (operation.Handed row) e trivial part b = absurd (false≢true e)
quiet_mark operation.Take e trivial part true = refl
quiet_mark operation.Take e trivial part false = refl

abbrev pub stores : AccessKind → Bool
stores access.Stores = true
stores _ = false

loads_quiet : (q : Qualifier) → never_fills (load_operation q) ≡ true
loads_quiet word.Plain = refl
loads_quiet word.Copy = refl
loads_quiet word.Take = refl
loads_quiet word.Trivial = refl
loads_quiet word.Init = refl
loads_quiet word.Assign = refl

row_quiet : (k : AccessKind) → stores k ≡ false → (q : Qualifier) (o : Operation) → operation_by k q ≡ Some o → never_fills o ≡ true
row_quiet access.LendsLocation none q o e = ap never_fills (sym (same_Some operation.Lend o e))
row_quiet access.Loads none q o e = ap never_fills (sym (same_Some (load_operation q) o e)) ∙ loads_quiet q
row_quiet access.Destroys none q o e = ap never_fills (sym (same_Some operation.Take o e))
row_quiet access.Stores none q o e = absurd (true≢false none)
row_quiet _ none q o e = absurd (none-some o e)

-- ---- places that are no fields

abbrev pub is_field : Source → Bool
is_field (source.Field of k trivial) = true
is_field _ = false

module _ (sources : List Source) where
  own_cell : (root : ValueId) (s : Source) → is_field s ≡ false → cell_by sources root s ≡ record { subject = root; field = None }
  own_cell root (source.Slot trivial) e = refl
  own_cell root (source.Argument row trivial) e = refl
  own_cell root (source.Object fields) e = refl
  own_cell root (source.Borrow of) e = refl
  own_cell root (source.Upcast of) e = refl
  own_cell root (source.Loan of) e = refl
  own_cell root (source.Field of k trivial) e = absurd (true≢false e)
  own_cell root (source.Part of k) e = refl
  own_cell root source.Other e = refl

  -- what is handed over, or taken, isn't at a field
  pub handed_elsewhere : (s : Source) (part : Bool) (row : AddressRow) → has_by sources s part (operation.Handed row) ≡ true → is_field s ≡ false
  handed_elsewhere (source.Field of k trivial) part row has = absurd (false≢true has)
  handed_elsewhere (source.Slot trivial) part row has = refl
  handed_elsewhere (source.Argument r trivial) part row has = refl
  handed_elsewhere (source.Object fields) part row has = refl
  handed_elsewhere (source.Borrow of) part row has = refl
  handed_elsewhere (source.Upcast of) part row has = refl
  handed_elsewhere (source.Loan of) part row has = refl
  handed_elsewhere (source.Part of k) part row has = refl
  handed_elsewhere source.Other part row has = refl

  pub taken_elsewhere : (s : Source) (part : Bool) → has_by sources s part operation.Take ≡ true → is_field s ≡ false
  taken_elsewhere (source.Field of k trivial) part has = absurd (false≢true has)
  taken_elsewhere (source.Slot trivial) part has = refl
  taken_elsewhere (source.Argument r trivial) part has = refl
  taken_elsewhere (source.Object fields) part has = refl
  taken_elsewhere (source.Borrow of) part has = refl
  taken_elsewhere (source.Upcast of) part has = refl
  taken_elsewhere (source.Loan of) part has = refl
  taken_elsewhere (source.Part of k) part has = refl
  taken_elsewhere source.Other part has = refl

  never_both : (b : Bool) → (b && false) ≡ false
  never_both true = refl
  never_both false = refl

  module _ (object : ValueId) (k : ℕ) where
    abbrev cell : Cell
    cell = record { subject = object; field = Some k }

    abbrev Unfilled : Operation → Option Location → Type 0
    Unfilled o l = fills sources cell o l ≡ false

    another : (c : Cell) (m : Mark) → same_cell c cell ≡ false → is_turned_on (when (same_cell c cell) m) ≡ false
    another c m e = ap (λ b. is_turned_on (when b m)) e

    pub other_place : (l : Location) (o : Operation) → is_field (source_at sources l.root) ≡ false → Unfilled o (Some l)
    other_place l o e =
        another (cell_of sources l.root) (operation_mark (is_trivial_at sources l.root) (counts_at_part sources l o) o)
        (ap (λ c. same_cell c cell) (own_cell l.root (source_at sources l.root) e) ∙ never_both (is_same l.root object))

    pub quiet_operation : (o : Operation) → never_fills o ≡ true → (l : Option Location) → Unfilled o l
    quiet_operation o e None = refl
    quiet_operation o e (Some l) = quiet_mark o e (is_trivial_at sources l.root) (counts_at_part sources l o) (same_cell (cell_of sources l.root) cell)

    handed_over : (row : AddressRow) (l : Option Location) → ((x : Location) → l ≡ Some x → has_operation sources x (operation.Handed row) ≡ true) → Unfilled (operation.Handed row) l
    handed_over row None has = refl
    handed_over row (Some l) has = other_place l (operation.Handed row) (handed_elsewhere (source_at sources l.root) (is_part l) row (has l refl))

-- ---- items

module _ (m : Module) (n : ℕ) (f : Function) (a : IsAcceptedBody m n f) (i : Item) (object : ValueId) (k : ℕ) where
  abbrev d : Declarations
  d = declarations_of m

  abbrev Fills : Operated → Type 0
  Fills o = fills (sources_of d f) (record { subject = object; field = Some k }) o.operation (location_of (sources_of d f) o.address) ≡ false

  -- its instruction, where it has one, stores nothing
  pub fills_none : ((x : Inst) → item_inst f i ≡ Some x → stores (access_kind_of x.op) ≡ false) → FillsNone d f i object k
  fills_none still x is o c = by (done_by x o c)
    where
      by : IsDoneBy x o → Fills o
      by (of_row operates e) =
          quiet_operation (sources_of d f) object k o.operation (row_quiet (access_kind_of x.op) (still x is) x.qualifier o.operation e) (location_of (sources_of d f) o.address)
      by (of_call row e so passes) =
          subst (λ (p : Operation). fills (sources_of d f) (record { subject = object; field = Some k }) p (location_of (sources_of d f) o.address) ≡ false) (sym e)
          (handed_over (sources_of d f) object k row (location_of (sources_of d f) o.address)
          (λ l at. subst (λ (p : Operation). has_operation (sources_of d f) l p ≡ true) e (rows_right d f (accepted_in m n f a) i x is o c l at)))

-- a terminator stores nothing
pub ending_still : (o : Op) → is_terminator o ≡ true → stores (access_kind_of o) ≡ false
ending_still op.Store e = absurd (false≢true e)
ending_still op.StoreWeak e = absurd (false≢true e)
ending_still op.StoreUnowned e = absurd (false≢true e)
ending_still o e = refl
