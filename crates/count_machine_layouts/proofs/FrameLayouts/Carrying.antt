-- What is carried, pair by pair, and that it is what is meant.
use Rattle.std.proofs.Common.{◌≡◌, ℕ, zero, suc, ◌+◌, ◌<◌, ◌≤◌, List, [], ◌∷◌, ◌++◌, length, map, drop, get_or, refl, sym, ap, ap₂, ◌∙◌}
use Rattle.std.proofs.Common.{append_assoc, add-one, Option, Some, None}
use Rattle.std.specs.Prelude.{slice_get}
use Rattle.std.specs.Option.{option_to_list}
use Rattle.std.proofs.lemmas.List.{append-nil, drop_all}
use Rattle.std.proofs.lemmas.Option.{slice_get-get_or}
use Rattle.sil_cfg_items.specs.Items.{arg_value}
use Rattle.holder_model_typing.specs.holder_model.RunTyping.EndForms.{value_in}
use Rattle.holder_model_typing.specs.holder_model.RunTyping.Forms.{Form, OfFunction, OfNothing, OfPlace, OfValue, form_of}
use Rattle.sil_ast.specs.declared.function.BlockArg.{BlockArg}
use Rattle.sil_ast.specs.declared.function.Function.{Function}
use Rattle.sil_ast.specs.declared.operands.Operand.{Operand}
use Rattle.sil_types_declarations.specs.TypeDefinitions.Declarations.{Declarations}
use Rattle.count_machine_model.specs.ReadyCode.Layout.{address_carried, addresses_carried, carry, carry_address, value_carried, values_carried}
use Rattle.count_machine_model.specs.declared.ready_code.local.Carry.{Carry}
use Rattle.count_machine_model.specs.declared.ready_code.local.CarryAddress.{CarryAddress}
use Rattle.count_machine_model.specs.declared.ready_code.local.Local.{Local}
use Rattle.count_machine_model.specs.declared.ready_code.local.LocalAddress.{LocalAddress}
use Rattle.count_machine_layouts.specs.declared.frame_layouts.layout.Layout.{Layout}
use Rattle.count_machine_layouts.specs.FrameLayouts.inner.Carried.{addresses_between, between, values_between, where_address, where_leaves}
use Rattle.count_machine_layouts.specs.FrameLayouts.inner.Layouts.{kept_of, layout_of}
use Rattle.count_machine_layouts.proofs.FrameLayouts.Spots.{address_told, kept_told, local_told}

module _ {A : Type 0} (one : Operand → Option BlockArg → Option A) (no : (o : Operand) → one o None ≡ None) where
  empty : (os : List Operand) → between one os [] ≡ []
  empty [] = refl
  empty (o ∷ os) = refl

  split : (os : List Operand) (args : List BlockArg) (k : ℕ) (o : Operand) → slice_get os k ≡ Some o
      → between one (drop k os) (drop k args) ≡ option_to_list (one o (slice_get args k)) ++ between one (drop (suc k) os) (drop (suc k) args)
  split [] args k o e = absurd (cc)
  split (p ∷ os) [] zero o e = sym (ap (λ x. option_to_list x ++ between one os []) (no o) ∙ empty os)
  split (p ∷ os) (a ∷ args) zero o e = let same : p ≡ o = cc in ap (λ q. option_to_list (one q (Some a)) ++ between one os args) same
  split (p ∷ os) [] (suc k) o e = empty (drop k os) ∙ sym (ap (λ x. option_to_list x ++ between one (drop (suc k) os) []) (no o) ∙ empty (drop (suc k) os))
  split (p ∷ os) (a ∷ args) (suc k) o e = split os args k o e

  pub one_more : (os : List Operand) (args : List BlockArg) (k : ℕ) (o : Operand) (x : Option A) (so_far next whole : List A)
      → k < length os → o ≡ get_or os k o
      → x ≡ one o (slice_get args k) → next ≡ so_far ++ option_to_list x → so_far ++ between one (drop k os) (drop k args) ≡ whole
      → next ++ between one (drop (k + 1) os) (drop (k + 1) args) ≡ whole
  one_more os args k o x so_far next whole lt is here added told =
      let there : slice_get os k ≡ Some o = slice_get-get_or os k o lt ∙ ap Some (sym is) in
      ap₂ (λ n j. n ++ between one (drop j os) (drop j args)) added (add-one k)
      ∙ append_assoc so_far (option_to_list x) (between one (drop (suc k) os) (drop (suc k) args))
      ∙ ap (λ y. so_far ++ (option_to_list y ++ between one (drop (suc k) os) (drop (suc k) args))) here
      ∙ ap (λ ys. so_far ++ ys) (sym (split os args k o there))
      ∙ told

pub ends : {A : Type 0} (one : Operand → Option BlockArg → Option A) (os : List Operand) (args : List BlockArg) (k : ℕ) (so_far whole : List A) → length os ≤ k
    → so_far ++ between one (drop k os) (drop k args) ≡ whole → so_far ≡ whole
ends one os args k so_far whole le told =
    sym (append-nil so_far) ∙ sym (ap (λ xs. so_far ++ between one xs (drop k args)) (drop_all k os le)) ∙ told

module _ (d : Declarations) (f g : Function) (from to : Layout) (is_from : from ≡ layout_of d f) (is_to : to ≡ layout_of d g) where
  values_by : (x : Form) (c : Carry) → option_to_list (where_leaves (kept_of x) c) ≡ value_carried d f g x c
  values_by (OfValue s) c = refl
  values_by (OfPlace s) c = refl
  values_by (OfFunction h) c = refl
  values_by OfNothing c = refl

  addresses_by : (x : Form) (c : CarryAddress) → option_to_list (where_address (kept_of x) c) ≡ address_carried d f g x c
  addresses_by (OfValue s) c = refl
  addresses_by (OfPlace s) c = refl
  addresses_by (OfFunction h) c = refl
  addresses_by OfNothing c = refl

  abbrev carried : Local → Local → Carry
  carried a b = record { from = a; to = b }

  abbrev handed : LocalAddress → LocalAddress → CarryAddress
  handed a b = record { from = a; to = b }

  pub values_meant : (os : List Operand) (args : List BlockArg) → values_between from to os args ≡ values_carried d f g (map value_in os) (map arg_value args)
  values_meant [] args = refl
  values_meant (o ∷ os) [] = refl
  values_meant (o ∷ os) (a ∷ args) =
      ap₂ (λ xs ys. xs ++ ys)
      (ap₂ (λ k c. option_to_list (where_leaves k c)) (kept_told d f from is_from o.value)
      (ap₂ carried (local_told d f from is_from o.value) (local_told d g to is_to a.value))
      ∙ values_by (form_of d f o.value) (carry d f g o.value a.value))
      (values_meant os args)

  pub addresses_meant : (os : List Operand) (args : List BlockArg)
      → addresses_between from to os args ≡ addresses_carried d f g (map value_in os) (map arg_value args)
  addresses_meant [] args = refl
  addresses_meant (o ∷ os) [] = refl
  addresses_meant (o ∷ os) (a ∷ args) =
      ap₂ (λ xs ys. xs ++ ys)
      (ap₂ (λ k c. option_to_list (where_address k c)) (kept_told d f from is_from o.value)
      (ap₂ handed (address_told d f from is_from o.value) (address_told d g to is_to a.value))
      ∙ addresses_by (form_of d f o.value) (carry_address d f g o.value a.value))
      (addresses_meant os args)
