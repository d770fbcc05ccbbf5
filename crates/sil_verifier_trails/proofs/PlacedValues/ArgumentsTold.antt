-- An argument that is an address is one that the signature tells of, and lies in no other one.
use Rattle.std.proofs.Common.{◌≡◌, ◌<◌, ℕ, zero, suc, List, length, map, refl, sym, ap, ◌∙◌, subst, arith, Bool, false, Option, Some, None}
use Rattle.std.specs.Prelude.{slice_get}
use Rattle.std.proofs.lemmas.Bool.{false≢true}
use Rattle.std.proofs.lemmas.List.{length-replicate}
use Rattle.std.proofs.lemmas.List.FromFn.{length-map-range_with_len}
use Rattle.std.proofs.lemmas.Option.{none-some, same_Some}
use Rattle.sil_verifier_values.specs.memory_rules_accesses.Locations.{locate, located_by, location_of, whole}
use Rattle.sil_verifier_values.specs.memory_rules_accesses.Operations.{access_kind_of}
use Rattle.sil_verifier_values.specs.memory_rules_accesses.Rows.{is_part}
use Rattle.sil_verifier_values.specs.memory_rules_accesses.Sources.{arg_sources, argument_source_or, handed_source, result_source, result_sources, source_at, sources_of}
use Rattle.sil_verifier_values.specs.memory_rules_accesses.declared.location.Location.{Location}
use Rattle.sil_verifier_values.specs.memory_rules_accesses.declared.source.Source.{Source}
use Rattle.sil_verifier_values.specs.memory_rules_accesses.declared.source.Source.TheVariants as source
use Rattle.sil_verifier_values.specs.sil_types.Typing.Shapes.{is_trivial_object}
use Rattle.sil_verifier_values.specs.inner.Known.{IsAcceptedBody, IsValue}
use Rattle.sil_verifier_values.specs.inner.Making.{IsMadeAt}
use Rattle.sil_verifier_values.proofs.Counted.{stands}
use Rattle.sil_verifier_values.proofs.Made.{made_somewhere}
use Rattle.sil_verifier_values.proofs.TableRows.{argument_rows, result_rows}
use Rattle.argument_conventions.specs.Arguments.{Told, arguments_of}
use Rattle.argument_conventions.specs.Rows.{address_row}
use Rattle.argument_conventions.specs.declared.row.AddressRow.{AddressRow}
use Rattle.sil_cfg_items.specs.Items.{arg_value, item_defined}
use Rattle.numbered_form.specs.Numbering.{values_of}
use Rattle.numbered_form.proofs.PointChecks.Among.{contained_among}
use Rattle.sil_ast.specs.Blocks.{args_of}
use Rattle.sil_ast.specs.declared.function.BlockArg.{BlockArg}
use Rattle.sil_ast.specs.declared.function.Function.{Function}
use Rattle.sil_ast.specs.declared.module.Module.{Module}
use Rattle.sil_ast.specs.declared.place.ValueId.{ValueId}
use Rattle.sil_cfg.specs.declared.item.Item.TheVariants as item
use Rattle.sil_cfg.specs.inner.Splice.{Stop}
use Rattle.sil_verifier_values.specs.sil_types_declarations.TypeDefinitions.Declarations.{Declarations, declarations_of}
use Rattle.numbered_form.proofs.ValueTables.Rows.{rows_count}
use Rattle.sil_verifier_trails.specs.PlacedValues.inner.Arguments.{AreArgumentsTold, AreArgumentsWhole, AreToldArguments, IsTold}
use Rattle.sil_verifier_trails.proofs.AcceptedPlaces.Fields.{has_among}
use Rattle.sil_verifier_trails.proofs.AcceptedPlaces.Made.{argument_there}
use Rattle.sil_verifier_trails.proofs.AcceptedPlaces.OperationsRight.{stands_somewhere}
use Rattle.sil_verifier_trails.proofs.AcceptedPlaces.PartsThere.{has_row}
use Rattle.sil_verifier_trails.proofs.PlacedValues.Sourcing.{is_argument, result_none}

-- what a signature tells of makes such an argument
handed_row : (trivial t : Bool) (o : Option AddressRow) (row : AddressRow) → handed_source trivial o ≡ source.Argument row t → (o ≡ Some row) × (t ≡ trivial)
handed_row trivial t None row e = absurd (cc)
handed_row trivial t (Some r) row e = let same : r ≡ row = cc in let kind : trivial ≡ t = cc in (ap Some same, sym kind)

-- an argument, or nothing, lies in no other place
whole_by : (trivial : Bool) (row : Option AddressRow) (v : ValueId) (sources : List Source) → source_at sources v ≡ handed_source trivial row → (k : ℕ) (l : Location)
    → locate sources k v ≡ Some l → is_part l ≡ false
whole_by trivial row v sources is zero l e = absurd (none-some l e)
whole_by trivial None v sources is (suc k) l e =
    let none : locate sources (suc k) v ≡ None = ap (λ s. located_by (locate sources k) v s) is in
    absurd (none-some l (sym none ∙ e))
whole_by trivial (Some row) v sources is (suc k) l e =
    let at : locate sources (suc k) v ≡ Some (whole v) = ap (λ s. located_by (locate sources k) v s) is in
    ap is_part (sym (same_Some (whole v) l (sym at ∙ e)))

module _ (m : Module) (n : ℕ) (f : Function) (a : IsAcceptedBody m n f) where
  abbrev d : Declarations
  d = declarations_of m

  abbrev sources : List Source
  sources = sources_of d f

  as_many : length sources ≡ length (values_of f.blocks)
  as_many = rows_count (arg_sources d f.signature) (result_sources d) args (λ i. length-replicate (length i.results) (result_source d i)) 0 f.blocks
    where
      args : (b : ℕ) (xs : List BlockArg) → length (arg_sources d f.signature b xs) ≡ length xs
      args zero xs = length-map-range_with_len (λ k. argument_source_or d (slice_get (arguments_of f.signature) k)) 0 (length xs)
      args (suc b) xs = length-replicate (length xs) source.Other

  -- the source of an argument of the entry
  pub entry_source : (k : ℕ) (v : ValueId) → slice_get (item_defined f item.Entry) k ≡ Some v → source_at sources v ≡ argument_source_or d (slice_get (arguments_of f.signature) k)
  entry_source k v at =
      let x = argument_there (args_of f 0) k v at in
      ap (source_at sources) (sym x.2) ∙ (argument_rows m n f a 0 k x.0 x.1).source

  entry_told : (v : ValueId) (row : AddressRow) (trivial : Bool) → source_at sources v ≡ source.Argument row trivial → (k : ℕ) → slice_get (item_defined f item.Entry) k ≡ Some v
      → IsTold d f v row trivial
  entry_told v row trivial is k at = by (slice_get (arguments_of f.signature) k) refl
    where
      by : (o : Option Told) → slice_get (arguments_of f.signature) k ≡ o → IsTold d f v row trivial
      by None told = let two : source.Other ≡ source.Argument row trivial = ap (argument_source_or d) (sym told) ∙ sym (entry_source k v at) ∙ is in absurd (cc)
      by (Some x) told =
          let both = handed_row (is_trivial_object d x.ty) trivial (address_row x.convention) row (ap (argument_source_or d) (sym told) ∙ sym (entry_source k v at) ∙ is) in
          record { number = k; told = x; is = at; told_is = told; row_is = both.0; trivial_is = both.1 }

  -- who makes it
  made_told : (v : ValueId) (row : AddressRow) (trivial : Bool) → source_at sources v ≡ source.Argument row trivial → (s : Stop) → IsMadeAt f v s → IsTold d f v row trivial
  made_told v row trivial is _ (IsMadeAt.result p i at c) =
      let here = stands_somewhere f (item.Inst p) i at in
      let s = stands i.results v c in
      let from : source_at sources v ≡ result_source d i = (result_rows m n f a here.0 here.1 s.0 i v here.2 s.1).source in
      absurd (false≢true (sym (result_none (access_kind_of i.op) d i)
      ∙ ap is_argument (sym from ∙ is)))
  made_told v row trivial is _ (IsMadeAt.parameter c) = let s = stands (map arg_value (args_of f 0)) v c in entry_told v row trivial is s.0 s.1
  made_told v row trivial is _ (IsMadeAt.argument zero within c) = absurd (omega arith)
  made_told v row trivial is _ (IsMadeAt.argument (suc b) within c) =
      let s = stands (map arg_value (args_of f (suc b))) v c in
      let x = argument_there (args_of f (suc b)) s.0 v s.1 in
      let two : source.Other ≡ source.Argument row trivial =
      sym (ap (source_at sources) (sym x.2) ∙ (argument_rows m n f a (suc b) s.0 x.0 x.1).source) ∙ is in
      absurd (cc)

  pub is_value : (v : ValueId) → (source_at sources v ≡ source.Other → ⊥) → IsValue f v
  is_value v some = subst (λ k. v.0 < k) as_many (has_row sources v some)

  told : (v : ValueId) (row : AddressRow) (trivial : Bool) → source_at sources v ≡ source.Argument row trivial → IsTold d f v row trivial
  told v row trivial is = let at = made_somewhere m n f a v (is_value v (λ e. let two : source.Other ≡ source.Argument row trivial = sym e ∙ is in cc)) in made_told v row trivial is at.0 at.1

  whole_at : (k : ℕ) (v : ValueId) → slice_get (item_defined f item.Entry) k ≡ Some v → (l : Location) → location_of sources v ≡ Some l → is_part l ≡ false
  whole_at k v at l here = by (slice_get (arguments_of f.signature) k) refl
    where
      by : (o : Option Told) → slice_get (arguments_of f.signature) k ≡ o → is_part l ≡ false
      by None e = whole_by false None v sources (entry_source k v at ∙ ap (argument_source_or d) e) (length sources) l here
      by (Some x) e = whole_by (is_trivial_object d x.ty) (address_row x.convention) v sources (entry_source k v at ∙ ap (argument_source_or d) e) (length sources) l here

pub arguments_told : AreArgumentsTold
arguments_told m n f a v row trivial is = told m n f a v row trivial is

pub told_arguments : AreToldArguments
told_arguments m n f a k v x at is = entry_source m n f a k v at ∙ ap (argument_source_or (declarations_of m)) is

pub arguments_whole : AreArgumentsWhole
arguments_whole m n f a v there l at =
    let s = stands (item_defined f item.Entry) v (contained_among v (item_defined f item.Entry) (has_among (item_defined f item.Entry) v there)) in
    whole_at m n f a s.0 v s.1 l at
