-- The scopes of an address that the next item of a run takes are open: those of the address of a field, and of what lies in one.
use Rattle.std.proofs.Common.{◌≡◌, ℕ, List, [], ◌∷◌, ◌++◌, length, refl, sym, ap, ◌∙◌, subst, Bool, true, false, cond, ◌⊎◌, inl, inr, Option, Some, None}
use Rattle.std.specs.Prelude.{Contains, flat_map}
use Rattle.std.proofs.lemmas.Bool.{false≢true, true≢false}
use Rattle.std.proofs.lemmas.List.Elements.{Contains-append_cases}
use Rattle.std.proofs.lemmas.Option.{none-some}
use Rattle.argument_conventions.specs.declared.row.AddressRow.{AddressRow}
use Rattle.instruction_table.specs.Forms.{is_terminator, roles_of}
use Rattle.instruction_table.specs.declared.entries.Role.TheVariants as role
use Rattle.instruction_table.specs.declared.op.Op.{Op}
use Rattle.instruction_table.specs.declared.op.Op.TheVariants as op
use Rattle.sil_cfg_items.specs.Items.{item_taken, taken_along_in, taken_in}
use Rattle.sil_cfg_items.specs.Parts.{edge_in, item_edge, item_inst}
use Rattle.sil_cfg_items.specs.Roles.{by_row, conventions_in, roles_for, taken_as, taken_by, taken_each}
use Rattle.sil_cfg_items.specs.declared.taken.Taken.{Taken}
use Rattle.numbered_form.specs.inner.Parts.{has_operands, is_typed}
use Rattle.sil_verifier_values.specs.ownership_kinds_chains.OwnershipChains.Facts.{has}
use Rattle.numbered_form.specs.PointChecks.Points.{IsAt}
use Rattle.numbered_form.proofs.PointChecks.Among.{Among, among_contained, among_flat, among_left, contained_among}
use Rattle.sil_ast.specs.declared.function.Function.{Function}
use Rattle.sil_ast.specs.declared.inst.Inst.{Inst}
use Rattle.sil_ast.specs.declared.module.Module.{Module}
use Rattle.sil_ast.specs.declared.operands.Operand.{Operand}
use Rattle.sil_ast.specs.declared.place.ValueId.{ValueId}
use Rattle.sil_cfg.specs.declared.item.Item.{Item}
use Rattle.sil_cfg.specs.declared.item.Item.TheVariants as item
use Rattle.sil_verifier_values.specs.sil_types_declarations.TypeDefinitions.Declarations.{Declarations, declarations_of}
use Rattle.sil_verifier_trails.specs.AcceptedTrails.inner.Bases.{IsBaseOf}
use Rattle.sil_verifier_trails.specs.AcceptedTrails.inner.Lives.{is_open}
use Rattle.sil_verifier_values.specs.memory_rules_accesses.Operations.{access_kind_of, address_of, addresses_of, deallocates, deallocates_by}
use Rattle.sil_verifier_values.specs.memory_rules_accesses.Sources.{is_slot}
use Rattle.sil_verifier_values.specs.memory_rules_accesses.Sources.{source_at, sources_of}
use Rattle.sil_verifier_values.specs.memory_rules_accesses.declared.source.Source.{Source}
use Rattle.sil_verifier_values.specs.memory_rules_accesses.declared.source.Source.TheVariants as source
use Rattle.sil_verifier_values.specs.memory_rules_parts.Parts.{is_scope, scope_part, scope_parts}
use Rattle.sil_verifier_values.specs.memory_rules_parts.declared.part.Part.TheVariants.{InScope}
use Rattle.sil_verifier_trails.specs.RunTrails.inner.RunTrails.{IsRunTrail}
use Rattle.sil_verifier_trails.specs.AcceptedMemory.inner.PartTrails.{IsPartOf}
use Rattle.sil_verifier_trails.proofs.AcceptedMemory.InScopes.{in_scopes}
use Rattle.sil_verifier_trails.specs.AcceptedPlaces.inner.Located.{IsNamed, IsRoot, argument, field, member, root, slot}
use Rattle.sil_verifier_trails.proofs.AcceptedPlaces.Fields.{has_among}
use Rattle.sil_verifier_trails.proofs.AcceptedPlaces.ItemStacks.{accepted_in}
use Rattle.sil_verifier_trails.proofs.AcceptedPlaces.Mentioned.{are_in_open_scopes}
use Rattle.sil_verifier_trails.proofs.AcceptedPlaces.OperationsRight.{of_slots, stands_somewhere}
use Rattle.sil_verifier_trails.proofs.AcceptedPlaces.PartsThere.{part_there}
use Rattle.sil_verifier_values.specs.inner.Known.{IsAcceptedBody, facts_at}
use Rattle.sil_verifier_values.proofs.Accepted.{typed}
use Rattle.sil_verifier_values.proofs.Counted.{nothing_in}
use Rattle.sil_verifier_values.proofs.holder_model_typing.RunTypingLaws.EndFacts.{one_operand}
use Rattle.sil_verifier_trails.specs.ScopedAddresses.inner.Addresses.{AreAddressesInScopes, TakesAddressesInScopes}
use Rattle.sil_verifier_trails.proofs.ScopedAddresses.OwnScopes.{own_scope}
use Rattle.sil_verifier_trails.proofs.ScopedAddresses.AddressRows.{borrows_scopes, plain_in_scopes_named, slots_no_bases}

-- ---- an address in its scopes

scope_listed : (sources : List Source) (v b : ValueId) (bases : List ValueId) → has bases b.0 ≡ true → is_scope sources b ≡ true
    → Among (InScope v b) (scope_parts sources v bases)
scope_listed sources v b bases there is =
    among_flat (scope_part sources v) (InScope v b) b bases (has_among bases b there)
    (subst (λ x. Among (InScope v b) (cond x (InScope v b ∷ []) [])) (sym is) (inl refl))

-- what deallocates a slot takes its address alone
deallocation : (o : Op) → deallocates_by (access_kind_of o) ≡ true → o ≡ op.DeallocStack
deallocation op.DeallocStack e = refl
deallocation _ e = absurd (false≢true e)

ends_nothing : (o : Op) → is_terminator o ≡ true → deallocates_by (access_kind_of o) ≡ false
ends_nothing op.DeallocStack e = absurd (false≢true e)
ends_nothing _ e = refl

deallocates_one : (x : Inst) → deallocates x ≡ true → has_operands x.op x.operands ≡ true
    → (o : Operand) × (addresses_of x ≡ o.value ∷ []) × (taken_by x ≡ taken_as o (by_row role.AddressRole) ∷ [])
deallocates_one x closes has =
    let is : x.op ≡ op.DeallocStack = deallocation x.op closes in
    let one = one_operand is_typed x.operands (sym (ap (λ o. has_operands o x.operands) is) ∙ has) in
    let taken : taken_by x ≡ taken_as one.0 (by_row role.AddressRole) ∷ [] =
    ap (λ o. taken_each x.operands (roles_for (roles_of o) (conventions_in x) (length x.operands))) is
    ∙ ap (λ os. taken_each os (roles_for (roles_of op.DeallocStack) (conventions_in x) (length os))) one.1 in
    (one.0, ap (flat_map address_of) taken, taken)

-- an item has an instruction where it takes something
inst_takes : (f : Function) (i : Item) (y : Taken) → Contains (item_taken f i) y → (x : Inst) × (item_inst f i ≡ Some x)
inst_takes f i y c = by (item_inst f i) refl (Contains-append_cases (taken_in (item_inst f i)) (taken_along_in (item_edge f i)) y c)
  where
    none_along : (i : Item) → item_inst f i ≡ None → Contains (taken_along_in (item_edge f i)) y → ⊥
    none_along item.Entry e c = nothing_in y c
    none_along (item.Inst p) e c = nothing_in y c
    none_along (item.Edge x) e c = nothing_in y (subst (λ o. Contains (taken_along_in (edge_in o x.index)) y) e c)
    none_along (item.Exit p) e c = nothing_in y c

    by : (o : Option Inst) → item_inst f i ≡ o → Contains (taken_in (item_inst f i)) y ⊎ Contains (taken_along_in (item_edge f i)) y → (x : Inst) × (item_inst f i ≡ Some x)
    by (Some x) is c = (x, is)
    by None is (inl c) = absurd (nothing_in y (subst (λ o. Contains (taken_in o) y) is c))
    by None is (inr c) = absurd (none_along i is c)

module _ (m : Module) (n : ℕ) (f : Function) (a : IsAcceptedBody m n f) where
  abbrev d : Declarations
  d = declarations_of m

  abbrev sources : List Source
  sources = sources_of d f

  -- ---- the scopes of an address are open where it is taken

  in_scope_by : (v b : ValueId) → IsBaseOf d f b v → is_scope sources b ≡ true → (s : Source) → source_at sources v ≡ s → IsRoot s
      → ((row : AddressRow) (trivial : Bool) → s ≡ source.Argument row trivial → ⊥) → IsPartOf d f (InScope v b)
  in_scope_by v b base is _ e (slot {trivial = trivial}) other =
      part_there d f v (source.Slot trivial) e (λ x. cc) (InScope v b)
      (inr (inr (among_left (InScope v b) (scope_parts sources v (facts_at d f v).bases) _ (scope_listed sources v b (facts_at d f v).bases base is))))
  in_scope_by v b base is _ e (field {of = of} {k = k} {trivial = trivial}) other =
      part_there d f v (source.Field of k trivial) e (λ x. cc) (InScope v b)
      (among_left (InScope v b) (scope_parts sources v (facts_at d f v).bases) _ (scope_listed sources v b (facts_at d f v).bases base is))
  in_scope_by v b base is _ e (argument {row = row} {trivial = trivial}) other = absurd (other row trivial refl)

  in_scope_there : (v b : ValueId) → IsBaseOf d f b v → is_scope sources b ≡ true → IsNamed sources v
      → ((row : AddressRow) (trivial : Bool) → source_at sources v ≡ source.Argument row trivial → ⊥) → IsPartOf d f (InScope v b)
  in_scope_there v b base is (root at) other = in_scope_by v b base is (source_at sources v) refl at other
  in_scope_there v b base is (member of k e) other =
      part_there d f v (source.Part of k) e (λ x. cc) (InScope v b)
      (among_left (InScope v b) (scope_parts sources v (facts_at d f v).bases) _ (scope_listed sources v b (facts_at d f v).bases base is))

  -- what a slot's deallocation takes is the slot
  takes_slot : (i : Item) (x : Inst) → item_inst f i ≡ Some x → deallocates x ≡ true → (y : Taken) → Contains (item_taken f i) y → is_slot sources y.value ≡ true
  takes_slot item.Entry x is closes y c = absurd (none-some x is)
  takes_slot (item.Inst p) x is closes y c = ap (is_slot sources) same ∙ is_one
    where
      here : (b k : ℕ) × IsAt f b k x
      here = stands_somewhere f (item.Inst p) x is

      one : (o : Operand) × (addresses_of x ≡ o.value ∷ []) × (taken_by x ≡ taken_as o (by_row role.AddressRole) ∷ [])
      one = deallocates_one x closes ((typed m n f a).insts here.0 here.1 x here.2).parts.operands

      is_one : is_slot sources one.0.value ≡ true
      is_one = of_slots d f (accepted_in m n f a) (item.Inst p) x is closes one.0.value
          (subst (λ vs. Contains vs one.0.value) (sym one.1) (contained_among one.0.value (one.0.value ∷ []) (inl refl)))

      taken : item_taken f (item.Inst p) ≡ taken_as one.0 (by_row role.AddressRole) ∷ []
      taken = ap (λ o. taken_in o ++ []) is ∙ ap (λ ts. ts ++ []) one.2

      same : y.value ≡ one.0.value
      same = only (subst (Among y) taken (among_contained y (item_taken f (item.Inst p)) c))
        where
          only : Among y (taken_as one.0 (by_row role.AddressRole) ∷ []) → y.value ≡ one.0.value
          only (inl e) = ap (λ (z : Taken). z.value) e
          only (inr e) = absurd e
  takes_slot (item.Edge e) x is closes y c = absurd (true≢false (sym closes ∙ ends_nothing x.op ((typed m n f a).ends e.block.0 x is).1.ends))
  takes_slot (item.Exit p) x is closes y c = absurd (true≢false (sym closes ∙ ends_nothing x.op ((typed m n f a).ends p.block.0 x is).1.ends))

  addresses_open : (t : List Item) (i : Item) → IsRunTrail f (i ∷ t) → TakesAddressesInScopes d f t i
  addresses_open t i h y s c plain base borrow = by (inst_takes f i y c)
    where
      named : IsNamed sources y.value × ((row : AddressRow) (trivial : Bool) → source_at sources y.value ≡ source.Argument row trivial → ⊥)
      named = plain_in_scopes_named m n f a y.value s plain base

      scope : is_scope sources s ≡ true
      scope = borrows_scopes m n f a s borrow

      by : (x : Inst) × (item_inst f i ≡ Some x) → is_open d f s t ≡ Some true
      by (x, is) = at (deallocates x) refl
        where
          at : (b : Bool) → deallocates x ≡ b → is_open d f s t ≡ Some true
          at true closes = absurd (slots_no_bases m n f a y.value s (takes_slot i x is closes y c) plain base)
          at false stays =
              sym (in_scopes d f (accepted_in m n f a) y.value s (in_scope_there y.value s base scope named.0 named.1) (own_scope m n f a s borrow).scope t h.1)
              ∙ are_in_open_scopes m n f a t i h x is stays y c named.0 named.1 s base scope

pub addresses_in_scopes : AreAddressesInScopes
addresses_in_scopes m n f a t i h = addresses_open m n f a t i h
