-- The layout of a function tells where each value stands; what it tells of others is where the next value would stand.
use Rattle.std.proofs.Common.{◌≡◌, ℕ, zero, suc, ◌+◌, ◌-◌, ◌<◌, ◌≤◌, List, length, map, refl, sym, ap, ap₂, ◌∙◌, arith, Option, None, ◌⊎◌}
use Rattle.std.proofs.Common.{inl, inr}
use Rattle.std.specs.Prelude.{slice_get, unwrap_or}
use Rattle.std.specs.List.{range_with_len}
use Rattle.std.proofs.lemmas.Bool.{cases_lt}
use Rattle.std.proofs.lemmas.List.{length-map}
use Rattle.std.proofs.lemmas.List.FromFn.{get_or-map-range_with_len, length-map-range_with_len}
use Rattle.std.proofs.lemmas.Option.{slice_get-get_or, slice_get_past}
use Rattle.holder_model_typing.specs.holder_model.Calling.{value_count}
use Rattle.sil_ast.specs.declared.function.Function.{Function}
use Rattle.sil_ast.specs.declared.place.FuncId.{FuncId}
use Rattle.sil_ast.specs.declared.place.ValueId.{ValueId}
use Rattle.sil_ast.specs.declared.type_name.TypeName.{TypeName}
use Rattle.sil_types.specs.Typing.RowTypes.{made_types}
use Rattle.sil_types.specs.Typing.Values.{arg_has, arg_types, function_at, result_types, type_at, value_functions, value_types}
use Rattle.sil_types_declarations.specs.TypeDefinitions.Declarations.{Declarations}
use Rattle.numbered_form.proofs.ValueTables.Rows.{rows_count}
use Rattle.holder_model_typing.specs.holder_model.RunTyping.Forms.{Form, OfNothing, form_by, form_of}
use Rattle.count_machine_model.specs.ReadyCode.Layout.{addresses_in, leaves_in, local, local_address}
use Rattle.count_machine_model.specs.declared.ready_code.local.Local.{Local}
use Rattle.count_machine_model.specs.declared.ready_code.local.LocalAddress.{LocalAddress}
use Rattle.count_machine_layouts.specs.declared.frame_layouts.layout.Kept.{Kept}
use Rattle.count_machine_layouts.specs.declared.frame_layouts.layout.Kept.TheVariants as kept
use Rattle.count_machine_layouts.specs.declared.frame_layouts.layout.Layout.{Layout}
use Rattle.count_machine_layouts.specs.declared.frame_layouts.layout.Spot.{Spot}
use Rattle.count_machine_layouts.specs.FrameLayouts.inner.Layouts.{address_in, addresses_to, form_at, kept_in, kept_of, layout_of, layout_to, leaves_kept, leaves_to, local_in}
use Rattle.count_machine_layouts.specs.FrameLayouts.inner.Layouts.{spot_at, spot_in}
use Rattle.count_machine_layouts.proofs.FrameLayouts.Counts.{values_counted}
use Rattle.count_machine_layouts.proofs.FrameLayouts.Laying.{leaves_of_kept, sum_to}

types_counted : (d : Declarations) (f : Function) → length (value_types d f) ≡ value_count f
types_counted d f =
    rows_count arg_types (result_types d) (λ n xs. length-map xs arg_has)
    (λ i. length-map-range_with_len (slice_get (made_types d i)) 0 (length i.results)) 0 f.blocks
    ∙ sym (values_counted f)

module _ (d : Declarations) (types : List (Option TypeName)) (functions : List (Option FuncId)) (count : ℕ)
    (typed : length types ≡ count) (all : length functions ≡ count) where
  abbrev form : ℕ → Form
  form = form_at d types functions

  nothing : (n : ℕ) → count ≤ n → form n ≡ OfNothing
  nothing n le =
      let no_type : type_at types n ≡ None = ap (λ o. unwrap_or o None) (slice_get_past types n (omega arith)) in
      let no_function : function_at functions n ≡ None = ap (λ o. unwrap_or o None) (slice_get_past functions n (omega arith)) in
      ap₂ (form_by d) no_type no_function

  leaves_past : (k : ℕ) → leaves_to d types functions (count + k) ≡ leaves_to d types functions count
  leaves_past zero = let e : count + 0 ≡ count = omega arith in ap (leaves_to d types functions) e
  leaves_past (suc k) =
      let rest = leaves_past k in
      let e : count + suc k ≡ (count + k) + 1 = omega arith in
      let none = ap leaves_in (nothing (count + k) (omega arith)) in
      let more = sum_to (λ n. leaves_in (form n)) (count + k) in
      ap (leaves_to d types functions) e ∙ omega (arith, more, none, rest)

  addresses_past : (k : ℕ) → addresses_to d types functions (count + k) ≡ addresses_to d types functions count
  addresses_past zero = let e : count + 0 ≡ count = omega arith in ap (addresses_to d types functions) e
  addresses_past (suc k) =
      let rest = addresses_past k in
      let e : count + suc k ≡ (count + k) + 1 = omega arith in
      let none = ap addresses_in (nothing (count + k) (omega arith)) in
      let more = sum_to (λ n. addresses_in (form n)) (count + k) in
      ap (addresses_to d types functions) e ∙ omega (arith, more, none, rest)

  abbrev laid : Layout
  laid = layout_to d types functions count

  abbrev made : ℕ → ℕ → Kept → Spot
  made a b k = record { at = a; address_at = b; kept = k }

  abbrev spots : List Spot
  spots = map (spot_at d types functions) (range_with_len 0 count)

  abbrev behind : Spot
  behind = record { at = leaves_to d types functions count; address_at = addresses_to d types functions count; kept = kept.Nothing }

  pub spot_found : (n : ℕ) → spot_in laid n ≡ spot_at d types functions n
  spot_found n = at (cases_lt n count)
    where
      long : length spots ≡ count
      long = length-map-range_with_len (spot_at d types functions) 0 count

      at : (n < count) ⊎ (count ≤ n) → unwrap_or (slice_get spots n) behind ≡ spot_at d types functions n
      at (inl lt) =
          ap (λ o. unwrap_or o behind) (slice_get-get_or spots n behind (let e = long in omega arith))
          ∙ get_or-map-range_with_len (spot_at d types functions) 0 count n n behind lt (omega arith)
      at (inr le) =
          let e : count + (n - count) ≡ n = omega arith in
          let leaves : leaves_to d types functions count ≡ leaves_to d types functions n = sym (leaves_past (n - count)) ∙ ap (leaves_to d types functions) e in
          let addresses : addresses_to d types functions count ≡ addresses_to d types functions n =
          sym (addresses_past (n - count)) ∙ ap (addresses_to d types functions) e in
          ap (λ o. unwrap_or o behind) (slice_get_past spots n (let e = long in omega arith))
          ∙ ap₂ (λ x y. made x y kept.Nothing) leaves addresses
          ∙ ap (made (leaves_to d types functions n) (addresses_to d types functions n)) (sym (ap kept_of (nothing n le)))

module _ (d : Declarations) (f : Function) (l : Layout) (is : l ≡ layout_of d f) (v : ValueId) where
  told : spot_in l v.0 ≡ spot_at d (value_types d f) (value_functions f) v.0
  told = ap (λ x. spot_in x v.0) is ∙ spot_found d (value_types d f) (value_functions f) (value_count f) (types_counted d f) refl v.0

  pub kept_told : kept_in l v ≡ kept_of (form_of d f v)
  kept_told = ap (λ (s : Spot). s.kept) told

  pub local_told : local_in l v ≡ local d f v
  local_told =
      ap (λ (s : Spot). let x : Local = record { value = v; at = s.at; size = leaves_kept s.kept } in x) told
      ∙ ap (λ n. let x : Local = record { value = v; at = leaves_to d (value_types d f) (value_functions f) v.0; size = n } in x)
      (leaves_of_kept (form_of d f v))

  pub address_told : address_in l v ≡ local_address d f v
  address_told = ap (λ (s : Spot). let x : LocalAddress = record { value = v; at = s.address_at } in x) told
