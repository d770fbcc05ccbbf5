-- The operations of an `apply`: each hands over the place of an operand, by the row of a convention.
use Rattle.std.proofs.Common.{◌≡◌, inl, inr, ◌++◌, append-nil, ℕ, zero, suc, List, [], ◌∷◌, length, map, replicate, true, false, cond, Option, Some}
use Rattle.std.proofs.Common.{None, refl, sym, ap, ◌∙◌, subst}
use Rattle.std.specs.List.{flat_map}
use Rattle.std.specs.Option.{option_or, option_to_list}
use Rattle.std.specs.Prelude.{Contains, option_map}
use Rattle.std.proofs.lemmas.Option.{none-some, same_Some}
use Rattle.holder_model_laws.specs.holder_model.Effects.{effect_of}
use Rattle.holder_model_laws.specs.holder_model.declared.row_effect.RowEffect.TheVariants.{CallsFunction}
use Rattle.holder_model_laws.specs.memory_rules_accesses.Operations.{access_kind_of, deallocates, deallocates_by, is_address_role, operated, operated_at, operations_of}
use Rattle.holder_model_laws.specs.memory_rules_accesses.declared.access.Operated.{Operated}
use Rattle.holder_model_laws.specs.memory_rules_accesses.declared.access.Operation.TheVariants.{Handed}
use Rattle.holder_model_laws.specs.memory_rules_accesses.declared.columns.AccessKind.TheVariants as access
use Rattle.sil_verifier_trails.specs.AcceptedPlaces.inner.Stacks.{keeps_slots, keeps_slots_by}
use Rattle.argument_conventions.specs.Rows.{address_row, row_of}
use Rattle.argument_conventions.specs.declared.convention.AddressConvention.{AddressConvention}
use Rattle.argument_conventions.specs.declared.convention.ArgumentConvention.{ArgumentConvention}
use Rattle.argument_conventions.specs.declared.convention.ArgumentConvention.TheVariants as convention
use Rattle.argument_conventions.specs.declared.row.AddressRow.{AddressRow}
use Rattle.instruction_table.specs.Forms.{roles_of}
use Rattle.instruction_table.specs.declared.entries.Role.{Role}
use Rattle.instruction_table.specs.declared.entries.Role.TheVariants as role
use Rattle.instruction_table.specs.declared.op.Op.{Op}
use Rattle.instruction_table.specs.declared.op.Op.TheVariants as op
use Rattle.sil_cfg_items.specs.Items.{item_taken, taken_in}
use Rattle.sil_cfg_items.specs.Parts.{inst_at, item_inst}
use Rattle.sil_cfg_items.specs.Roles.{by_convention, by_row, conventions_in, last_roles, roles_for, taken_as, taken_by, taken_each}
use Rattle.sil_cfg_items.specs.declared.taken.Taken.{Taken}
use Rattle.sil_cfg_items.specs.declared.taken.Treatment.{Treatment}
use Rattle.numbered_form.proofs.PointChecks.Among.{Among, contained_among, flat_among, map_among}
use Rattle.sil_ast.specs.declared.function.Function.{Function}
use Rattle.sil_ast.specs.declared.inst.Inst.{Inst}
use Rattle.sil_ast.specs.declared.operands.Operand.{Operand}
use Rattle.sil_ast.specs.declared.place.PointId.{PointId}
use Rattle.sil_cfg.specs.declared.item.Item.TheVariants as item
use Rattle.sil_verifier_frames.proofs.Placed.RowsAt.{nothing_at}

apply_alone : (o : Op) → effect_of o ≡ CallsFunction → o ≡ op.Apply
apply_alone op.Apply e = refl
apply_alone _ e = absurd (cc)

-- ---- what is handed over goes by a convention

abbrev IsByTable : Treatment → Type 0
IsByTable t = (row : AddressRow) → t.handed ≡ Some row → (c : AddressConvention) × (row ≡ row_of c)

conventional : (c : ArgumentConvention) (row : AddressRow) → address_row c ≡ Some row → (k : AddressConvention) × (row ≡ row_of k)
conventional convention.Plain row e = absurd (none-some row e)
conventional convention.Owned row e = absurd (none-some row e)
conventional convention.Guaranteed row e = absurd (none-some row e)
conventional (convention.Address k) row e = (k, sym (same_Some (row_of k) row e))

by_rows : (r : Role) (n : ℕ) (t : Treatment) → Among t (replicate n (by_row r)) → IsByTable t
by_rows r zero t c row e = absurd c
by_rows r (suc n) t (inl same) row e = absurd (none-some row (sym (ap (λ x. x.handed) same) ∙ e))
by_rows r (suc n) t (inr later) row e = by_rows r n t later row e

by_conventions : (cs : List ArgumentConvention) (t : Treatment) → Among t (map by_convention cs) → IsByTable t
by_conventions cs t c row e =
    let x = map_among by_convention t cs c in
    conventional x.0 row (sym (ap (λ y. y.handed) x.2) ∙ e)

by_last : (r : Role) (cs : List ArgumentConvention) (n : ℕ) (t : Treatment) → Among t (last_roles r cs n) → IsByTable t
by_last role.ByParameter cs n t c = by_conventions cs t c
by_last role.Consumed cs n t c = by_rows role.Consumed n t c
by_last role.Used cs n t c = by_rows role.Used n t c
by_last role.Lent cs n t c = by_rows role.Lent n t c
by_last role.Forwarded cs n t c = by_rows role.Forwarded n t c
by_last role.AddressRole cs n t c = by_rows role.AddressRole n t c
by_last role.AnyRole cs n t c = by_rows role.AnyRole n t c
by_last role.ScopeRole cs n t c = by_rows role.ScopeRole n t c
by_last role.Counted cs n t c = by_rows role.Counted n t c

by_roles : (rs : List Role) (cs : List ArgumentConvention) (n : ℕ) (t : Treatment) → Among t (roles_for rs cs n) → IsByTable t
by_roles [] cs n t c row e = absurd c
by_roles (r ∷ []) cs n t c row e = by_last r cs n t c row e
by_roles (r ∷ q ∷ rs) cs zero t c row e = absurd c
by_roles (r ∷ q ∷ rs) cs (suc n) t (inl same) row e = absurd (none-some row (sym (ap (λ x. x.handed) same) ∙ e))
by_roles (r ∷ q ∷ rs) cs (suc n) t (inr later) row e = by_roles (q ∷ rs) cs n t later row e

each_as : (os : List Operand) (ts : List Treatment) (x : Taken) → Among x (taken_each os ts) → (o : Operand) × (t : Treatment) × Among t ts × (x ≡ taken_as o t)
each_as [] ts x c = absurd c
each_as (o ∷ os) [] x c = absurd c
each_as (o ∷ os) (t ∷ ts) x (inl same) = (o, t, inl refl, same)
each_as (o ∷ os) (t ∷ ts) x (inr later) = let r = each_as os ts x later in (r.0, r.1, inr r.2, r.3)

pub handed_by_table : (i : Inst) (x : Taken) → Among x (taken_by i) → (row : AddressRow) → x.handed ≡ Some row → (c : AddressConvention) × (row ≡ row_of c)
handed_by_table i x c row e =
    let r = each_as i.operands (roles_for (roles_of i.op) (conventions_in i) (length i.operands)) x c in
    by_roles (roles_of i.op) (conventions_in i) (length i.operands) r.1 r.2 row (sym (ap (λ y. y.handed) r.3) ∙ e)

-- ---- the operations

-- the operation hands over the place of an operand
pub record IsHandedBy (x : Inst) (o : Operated) : Type 0 where
  pub taken : Taken
  pub among : Among taken (taken_by x)
  pub row : AddressRow
  pub handed : taken.handed ≡ Some row
  pub is : o ≡ operated taken.value (Handed row)

module _ (x : Inst) (call : effect_of x.op ≡ CallsFunction) where
  is_apply : x.op ≡ op.Apply
  is_apply = apply_alone x.op call

  passes : access_kind_of x.op ≡ access.Passes
  passes = ap access_kind_of is_apply

  pub no_slot_goes : deallocates x ≡ false
  no_slot_goes = ap deallocates_by passes

  pub slots_stay : keeps_slots (Some x) ≡ true
  slots_stay = ap keeps_slots_by passes

  pub handed_by : (o : Operated) → Among o (operations_of x) → IsHandedBy x o
  handed_by o c = by r.0.handed refl
    where
      r : (t : Taken) × Among t (taken_by x) × Among o (operated_at access.Passes x.qualifier t)
      r = flat_among (operated_at access.Passes x.qualifier) o (taken_by x) (subst (λ k. Among o (flat_map (operated_at k x.qualifier) (taken_by x))) passes c)

      by : (h : Option AddressRow) → r.0.handed ≡ h → IsHandedBy x o
      by None e = absurd (subst (Among o) (nothing_at access.Passes x.qualifier r.0 e refl) r.2)
      by (Some row) e = record {
        taken = r.0;
        among = r.1;
        row = row;
        handed = e;
        is = one (subst (λ h. Among o (option_to_list (option_map (operated r.0.value) (option_or (option_map Handed h) (cond (is_address_role r.0.role) None None))))) e r.2);
      }
        where
          one : Among o (operated r.0.value (Handed row) ∷ []) → o ≡ operated r.0.value (Handed row)
          one (inl same) = same
          one (inr never) = absurd never

  handed_once : (a b : AddressRow) → Handed a ≡ Handed b → a ≡ b
  handed_once a b e = cc

  pub rows_by_table : (o : Operated) → Among o (operations_of x) → (row : AddressRow) → o.operation ≡ Handed row → (c : AddressConvention) × (row ≡ row_of c)
  rows_by_table o c row e =
      let h = handed_by o c in
      let same = handed_once h.row row (sym (ap (λ y. y.operation) h.is) ∙ e) in
      let t = handed_by_table x h.taken h.among h.row h.handed in
      (t.0, sym same ∙ t.1)

  -- what it hands over is one of the operands that its item takes
  pub takes_it : (f : Function) (p : PointId) → inst_at f p ≡ Some x → (o : Operated) (c : Among o (operations_of x)) → Contains (item_taken f (item.Inst p)) (handed_by o c).taken
  takes_it f p is o c =
      subst (λ ts. Contains ts (handed_by o c).taken) (sym (ap (λ i. taken_in i ++ []) is ∙ append-nil (taken_by x)))
      (contained_among (handed_by o c).taken (taken_by x) (handed_by o c).among)

  pub leaves_slots : (f : Function) (p : PointId) → inst_at f p ≡ Some x → keeps_slots (item_inst f (item.Inst p)) ≡ true
  leaves_slots f p is = ap keeps_slots is ∙ slots_stay
