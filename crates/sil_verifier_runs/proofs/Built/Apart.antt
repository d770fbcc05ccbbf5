-- What an item makes is about no new object, unless its row hands an object or an address on.
use Rattle.std.proofs.Common.{◌≡◌, ◌⊎◌, inl, inr, ℕ, zero, suc, List, length, refl, sym, ap, ◌∙◌, Bool, true, false, Option, Some, None}
use Rattle.std.specs.Prelude.{slice_get}
use Rattle.std.proofs.lemmas.Bool.{false≢true}
use Rattle.std.proofs.lemmas.Option.{none-some, same_Some}
use Rattle.argument_conventions.specs.Arguments.{Told, arguments_of}
use Rattle.argument_conventions.specs.Rows.{address_row}
use Rattle.argument_conventions.specs.declared.row.AddressRow.{AddressRow}
use Rattle.instruction_table.specs.Forms.{is_terminator}
use Rattle.instruction_table.specs.declared.op.Op.{Op}
use Rattle.instruction_table.specs.declared.op.Op.TheVariants as op
use Rattle.sil_verifier_frames.specs.sil_verifier_trails.AcceptedTrails.inner.Defined.{makes}
use Rattle.sil_verifier_frames.specs.memory_rules_accesses.Locations.{locate, located_by, whole}
use Rattle.sil_verifier_frames.specs.memory_rules_accesses.Operations.{access_kind_of}
use Rattle.sil_verifier_frames.specs.memory_rules_accesses.Sources.{argument_source_or, handed_source, loan_source, object_source, slot_source, source_at, source_by, sources_of}
use Rattle.sil_verifier_frames.specs.memory_rules_accesses.declared.columns.AccessKind.{AccessKind}
use Rattle.sil_verifier_frames.specs.memory_rules_accesses.declared.columns.AccessKind.TheVariants as access
use Rattle.sil_verifier_frames.specs.memory_rules_accesses.declared.location.Location.{Location}
use Rattle.sil_verifier_frames.specs.memory_rules_accesses.declared.source.Source.{Source}
use Rattle.sil_verifier_frames.specs.memory_rules_accesses.declared.source.Source.TheVariants as source
use Rattle.sil_verifier_frames.specs.memory_rules_parts.Building.{builds}
use Rattle.sil_verifier_frames.proofs.sil_verifier_trails.AcceptedPlaces.Fields.{has_among}
use Rattle.sil_verifier_frames.proofs.sil_verifier_trails.AcceptedPlaces.Made.{IsMadeBy, argument, made_so, result}
use Rattle.sil_verifier_frames.specs.sil_verifier_values.inner.Known.{IsAcceptedBody}
use Rattle.sil_verifier_frames.specs.sil_verifier_values.inner.Rows.{source_of_argument}
use Rattle.sil_verifier_frames.proofs.sil_verifier_values.Accepted.{typed}
use Rattle.sil_verifier_frames.specs.holder_model_laws.HolderLaws.inner.Built.Building.{IsAbout, IsFieldAddress, address, borrow, itself}
use Rattle.sil_verifier_frames.specs.holder_model_laws.HolderLaws.inner.Built.Laws.{IsOutside}
use Rattle.sil_cfg_items.specs.Items.{item_defined}
use Rattle.sil_cfg_items.specs.Parts.{item_inst}
use Rattle.numbered_form.proofs.PointChecks.Among.{contained_among}
use Rattle.sil_ast.specs.declared.function.Function.{Function}
use Rattle.sil_ast.specs.declared.inst.Inst.{Inst}
use Rattle.sil_ast.specs.declared.module.Module.{Module}
use Rattle.sil_ast.specs.declared.place.EdgeId.{EdgeId}
use Rattle.sil_ast.specs.declared.place.ValueId.{ValueId}
use Rattle.sil_ast.specs.declared.type_name.TypeName.{TypeName}
use Rattle.sil_cfg.specs.declared.item.Item.{Item}
use Rattle.sil_cfg.specs.declared.item.Item.TheVariants as item
use Rattle.sil_types_declarations.specs.TypeDefinitions.Declarations.{Declarations, declarations_of}
use Rattle.sil_verifier_runs.proofs.Built.About.{builder}

-- ---- sources

-- the value is neither a borrow, nor the address of a field or of what lies at an address
abbrev pub is_apart : Source → Bool
is_apart (source.Slot trivial) = true
is_apart (source.Argument row trivial) = true
is_apart (source.Object fields) = true
is_apart (source.Borrow of) = false
is_apart (source.Upcast of) = false
is_apart (source.Loan of) = true
is_apart (source.Field of k trivial) = false
is_apart (source.Part of k) = false
is_apart source.Other = true

module _ (sources : List Source) (v : ValueId) (l : Location) (of : ValueId) (k : ℕ) (b : Bool) (field : source_at sources l.root ≡ source.Field of k b) where
  at_itself : (s : Source) → source_at sources v ≡ s → (s ≡ source.Field of k b → ⊥) → whole v ≡ l → ⊥
  at_itself s is other same = other (sym is ∙ ap (λ (x : Location). source_at sources x.root) same ∙ field)

  unaddressed_by : (others : ValueId → Option Location) (s : Source) → source_at sources v ≡ s → is_apart s ≡ true → located_by others v s ≡ Some l → ⊥
  unaddressed_by others (source.Slot t) is apart e = at_itself (source.Slot t) is (λ h. cc) (same_Some (whole v) l e)
  unaddressed_by others (source.Argument row t) is apart e = at_itself (source.Argument row t) is (λ h. cc) (same_Some (whole v) l e)
  unaddressed_by others (source.Object fields) is apart e = none-some l e
  unaddressed_by others (source.Borrow w) is apart e = none-some l e
  unaddressed_by others (source.Upcast w) is apart e = none-some l e
  unaddressed_by others (source.Loan w) is apart e = none-some l e
  unaddressed_by others (source.Field w j t) is apart e = false≢true apart
  unaddressed_by others (source.Part w j) is apart e = false≢true apart
  unaddressed_by others source.Other is apart e = none-some l e

  unaddressed : (n : ℕ) → is_apart (source_at sources v) ≡ true → locate sources n v ≡ Some l → ⊥
  unaddressed zero apart e = none-some l e
  unaddressed (suc n) apart e = unaddressed_by (locate sources n) (source_at sources v) refl apart e

-- such a value is about no new object
pub source_apart : (sources : List Source) (v : ValueId) → is_apart (source_at sources v) ≡ true → IsOutside sources v
source_apart sources v apart = record { about = about; address = at }
  where
    at : (l : Location) (of : ValueId) (k : ℕ) → IsFieldAddress sources v l of k → ⊥
    at l of k x = unaddressed sources v l of k x.trivial x.is (length sources) apart x.at

    about : (object : ValueId) → (v ≡ object → ⊥) → IsAbout sources object v → ⊥
    about object differ (itself same) = differ same
    about object differ (borrow built) = by (builder sources object v built)
      where
        by : (source_at sources v ≡ source.Borrow object) ⊎ ((w : ValueId) × (source_at sources v ≡ source.Upcast w) × (builds sources object w ≡ true)) → ⊥
        by (inl is) = false≢true (sym (ap is_apart is) ∙ apart)
        by (inr (w, is, more)) = false≢true (sym (ap is_apart is) ∙ apart)
    about object differ (address l of k x built) = at l of k x

-- ---- rows

-- the row's results are such values
abbrev pub keeps_apart : AccessKind → Bool
keeps_apart access.LendsValue = false
keeps_apart access.Upcasts = false
keeps_apart access.NamesField = false
keeps_apart access.NamesMember = false
keeps_apart access.NamesElement = false
keeps_apart _ = true

slot_apart : (d : Declarations) (o : Option TypeName) → is_apart (slot_source d o) ≡ true
slot_apart d None = refl
slot_apart d (Some t) = refl

object_apart : (d : Declarations) (o : Option TypeName) → is_apart (object_source d o) ≡ true
object_apart d None = refl
object_apart d (Some t) = refl

loan_apart : (o : Option ValueId) → is_apart (loan_source o) ≡ true
loan_apart None = refl
loan_apart (Some w) = refl

pub kind_apart : (k : AccessKind) → keeps_apart k ≡ true → (d : Declarations) (x : Inst) → is_apart (source_by k d x) ≡ true
kind_apart access.NoAccess e d x = refl
kind_apart access.AllocatesSlot e d x = slot_apart d x.ty
kind_apart access.AllocatesObject e d x = object_apart d x.ty
kind_apart access.DeallocatesSlot e d x = refl
kind_apart access.LendsValue e d x = absurd (false≢true e)
kind_apart access.Upcasts e d x = absurd (false≢true e)
kind_apart access.LendsLocation e d x = loan_apart _
kind_apart access.NamesField e d x = absurd (false≢true e)
kind_apart access.NamesMember e d x = absurd (false≢true e)
kind_apart access.NamesElement e d x = absurd (false≢true e)
kind_apart access.Loads e d x = refl
kind_apart access.Stores e d x = refl
kind_apart access.Destroys e d x = refl
kind_apart access.Passes e d x = refl

handed_apart : (trivial : Bool) (row : Option AddressRow) → is_apart (handed_source trivial row) ≡ true
handed_apart trivial None = refl
handed_apart trivial (Some row) = refl

told_apart : (d : Declarations) (o : Option Told) → is_apart (argument_source_or d o) ≡ true
told_apart d None = refl
told_apart d (Some t) = handed_apart _ (address_row t.convention)

argument_apart : (d : Declarations) (f : Function) (b k : ℕ) → is_apart (source_of_argument d f b k) ≡ true
argument_apart d f zero k = told_apart d (slice_get (arguments_of f.signature) k)
argument_apart d f (suc b) k = refl

-- so are those of a terminator's edges
pub ending_apart : (o : Op) → is_terminator o ≡ true → keeps_apart (access_kind_of o) ≡ true
ending_apart op.Upcast e = absurd (false≢true e)
ending_apart op.BeginBorrow e = absurd (false≢true e)
ending_apart op.RefElementAddr e = absurd (false≢true e)
ending_apart op.StructElementAddr e = absurd (false≢true e)
ending_apart op.TupleElementAddr e = absurd (false≢true e)
ending_apart o e = refl

-- ---- items

-- the item's instruction, where it has one, keeps its results apart
abbrev pub KeepsApart : Function → Item → Type 0
KeepsApart f i = (x : Inst) → item_inst f i ≡ Some x → keeps_apart (access_kind_of x.op) ≡ true

module _ (m : Module) (n : ℕ) (f : Function) (a : IsAcceptedBody m n f) where
  abbrev d : Declarations
  d = declarations_of m

  abbrev sources : List Source
  sources = sources_of d f

  pub made_source : (i : Item) (v : ValueId) → makes f v i ≡ true → KeepsApart f i → is_apart (source_at sources v) ≡ true
  made_source i v made keeps = by (made_so m n f a i v (contained_among v (item_defined f i) (has_among (item_defined f i) v made)))
    where
      by : IsMadeBy d f i v → is_apart (source_at sources v) ≡ true
      by (result x is row) = ap is_apart row ∙ kind_apart (access_kind_of x.op) (keeps x is) d x
      by (argument b k row) = ap is_apart row ∙ argument_apart d f b k

  pub made_apart : (i : Item) (v : ValueId) → makes f v i ≡ true → KeepsApart f i → IsOutside sources v
  made_apart i v made keeps = source_apart sources v (made_source i v made keeps)

  pub entry_apart : KeepsApart f item.Entry
  entry_apart x is = absurd (none-some x is)

  pub edge_apart : (e : EdgeId) → KeepsApart f (item.Edge e)
  edge_apart e x is = ending_apart x.op ((typed m n f a).ends e.block.0 x is).1.ends
