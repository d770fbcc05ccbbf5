-- What a value names, its members and its payload name, and what an edge carries: where all names are of one sort, so are these.
use Rattle.std.proofs.Common.{◌≡◌, ℕ, List, [], ◌∷◌, drop, length, refl, subst, Bool, true, false, Option, Some, None}
use Rattle.std.specs.Prelude.{◌==◌, cond, option_and_then, option_map}
use Rattle.std.proofs.lemmas.Option.{none-some, same_Some}
use Rattle.sil_verifier_frames.specs.holder_model.Data.{AddressOf, Datum, FunctionOf, ValueOf, references_in}
use Rattle.sil_verifier_frames.specs.holder_model.Edges.{carried_along, carried_by, first_value_of, is_default, payload_data, switched_data}
use Rattle.instruction_table.specs.Forms.{ending_of}
use Rattle.instruction_table.specs.declared.entries.Ending.{Ending}
use Rattle.instruction_table.specs.declared.entries.Ending.TheVariants as ending
use Rattle.sil_cfg_items.specs.Parts.{args_behind, edge_at, item_operands, terminator_of}
use Rattle.numbered_form.specs.Lists.{Each}
use Rattle.holder_model_values.specs.RunValues.Values as value
use Rattle.holder_model_values.specs.RunValues.Values.{Value, Values, listed, members_of, references_in_each, references_of, values_of}
use Rattle.sil_ast.specs.declared.inst.Edge.{Edge}
use Rattle.sil_ast.specs.declared.function.Function.{Function}
use Rattle.sil_ast.specs.declared.inst.Inst.{Inst}
use Rattle.sil_ast.specs.declared.place.EdgeId.{EdgeId}
use Rattle.sil_ast.specs.declared.place.ObjectId.{ObjectId}
use Rattle.sil_cfg.specs.declared.item.Item.TheVariants as item
use Rattle.sil_verifier_frames.proofs.holder_model_laws.HolderLaws.Whole.Lists.{each_append, each_cut, each_parts}

module _ (P : ObjectId → Type 0) where
  abbrev pub ValueNames : Value → Type 0
  ValueNames x = Each P (references_of x)

  abbrev pub DatumNames : Datum → Type 0
  DatumNames x = Each P (references_in x)

  each_member : (xs : Values) → Each P (references_in_each xs) → Each ValueNames (listed xs)
  each_member value.NoValue h = tt
  each_member (value.More x xs) h = let parts = each_parts P (references_of x) (references_in_each xs) h in (parts.0, each_member xs parts.1)

  pub members_name : (x : Value) (ys : List Value) → ValueNames x → members_of x ≡ Some ys → Each ValueNames ys
  members_name (value.Int n) ys h e = absurd (none-some ys e)
  members_name (value.Object o) ys h e = absurd (none-some ys e)
  members_name (value.Group members) ys h e = subst (Each ValueNames) (same_Some (listed members) ys e) (each_member members h)
  members_name (value.Case index) ys h e = absurd (none-some ys e)
  members_name (value.Full index payload) ys h e = absurd (none-some ys e)

  pub group_names : (xs : List Value) → Each ValueNames xs → Each P (references_in_each (values_of xs))
  group_names [] h = tt
  group_names (x ∷ xs) h = each_append P (references_of x) (references_in_each (values_of xs)) h.0 (group_names xs h.1)

  -- ---- edges

  payload_names : (x : Value) → ValueNames x → Each DatumNames (payload_data x)
  payload_names (value.Int n) h = tt
  payload_names (value.Object o) h = tt
  payload_names (value.Group members) h = tt
  payload_names (value.Case index) h = tt
  payload_names (value.Full index payload) h = (h, tt)

  switched_names : (e : Edge) (count : ℕ) (x : Value) → ValueNames x → Each DatumNames (switched_data e count x)
  switched_names e count x h = at (is_default e) (count == 0)
    where
      at : (default none : Bool) → Each DatumNames (cond default (cond none [] (ValueOf x ∷ [])) (payload_data x))
      at true true = tt
      at true false = (h, tt)
      at false none = payload_names x h

  first_names : (xs : List Datum) (x : Value) → Each DatumNames xs → first_value_of xs ≡ Some x → ValueNames x
  first_names [] x h e = absurd (none-some x e)
  first_names (ValueOf y ∷ xs) x h e = subst ValueNames (same_Some y x e) h.0
  first_names (AddressOf p ∷ xs) x h e = absurd (none-some x e)
  first_names (FunctionOf g ∷ xs) x h e = absurd (none-some x e)

  module _ (f : Function) (e : EdgeId) (xs carried : List Datum) (h : Each DatumNames xs) where
    carried_so : (k : Ending) (taken : Edge) → carried_by k f e taken xs ≡ Some carried → Each DatumNames carried
    carried_so ending.Inside taken is = absurd (none-some carried is)
    carried_so ending.OneBranch taken is =
        subst (Each DatumNames) (same_Some (drop (length (item_operands f (item.Edge e))) xs) carried is) (each_cut DatumNames (length (item_operands f (item.Edge e))) xs h).1
    carried_so ending.TwoBranches taken is =
        subst (Each DatumNames) (same_Some (drop (length (item_operands f (item.Edge e))) xs) carried is) (each_cut DatumNames (length (item_operands f (item.Edge e))) xs h).1
    carried_so ending.Cases taken is = by (first_value_of xs) refl is
      where
        by : (o : Option Value) → first_value_of xs ≡ o → option_map (switched_data taken (length (args_behind f (Some taken)))) o ≡ Some carried → Each DatumNames carried
        by None first is = absurd (none-some carried is)
        by (Some x) first is =
            subst (Each DatumNames) (same_Some (switched_data taken (length (args_behind f (Some taken))) x) carried is)
            (switched_names taken (length (args_behind f (Some taken))) x (first_names xs x h first))
    carried_so ending.Return taken is = absurd (none-some carried is)
    carried_so ending.Unreachable taken is = absurd (none-some carried is)

    pub carried_names : carried_along f e xs ≡ Some carried → Each DatumNames carried
    carried_names is = by (terminator_of f e.block.0) (edge_at f e) is
      where
        by : (o : Option Inst) (to : Option Edge) → option_and_then (λ (i : Inst). option_and_then (λ (taken : Edge). carried_by (ending_of i.op) f e taken xs) to) o ≡ Some carried
            → Each DatumNames carried
        by None to is = absurd (none-some carried is)
        by (Some i) None is = absurd (none-some carried is)
        by (Some i) (Some taken) is = carried_so (ending_of i.op) taken is
