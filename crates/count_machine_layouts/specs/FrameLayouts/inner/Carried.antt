-- What is carried from values of one layout to as many of another.
use Rattle.std.specs.Prelude.{List, [], ◌∷◌, ◌++◌, Option, Some, None}
use Rattle.std.specs.Option.{option_to_list}
use Rattle.sil_ast.specs.declared.function.BlockArg.{BlockArg}
use Rattle.sil_ast.specs.declared.operands.Operand.{Operand}
use Rattle.count_machine_model.specs.declared.ready_code.local.Carry.{Carry}
use Rattle.count_machine_model.specs.declared.ready_code.local.CarryAddress.{CarryAddress}
use Rattle.count_machine_layouts.specs.declared.frame_layouts.layout.Kept.{Kept}
use Rattle.count_machine_layouts.specs.declared.frame_layouts.layout.Kept.TheVariants as kept
use Rattle.count_machine_layouts.specs.declared.frame_layouts.layout.Layout.{Layout}
use Rattle.count_machine_layouts.specs.FrameLayouts.inner.Layouts.{address_in, kept_in, local_in}

abbrev pub where_leaves : {A : Type 0} → Kept → A → Option A
where_leaves (kept.Leaves n) x = Some x
where_leaves (kept.Address n s) x = None
where_leaves (kept.Function g) x = None
where_leaves kept.Nothing x = None

abbrev pub where_address : {A : Type 0} → Kept → A → Option A
where_address (kept.Leaves n) x = None
where_address (kept.Address n s) x = Some x
where_address (kept.Function g) x = None
where_address kept.Nothing x = None

-- of operands and as many arguments what is carried from the one to the other
abbrev pub between : {A : Type 0} → (Operand → Option BlockArg → Option A) → List Operand → List BlockArg → List A
between one [] args = []
between one (o ∷ os) [] = []
between one (o ∷ os) (a ∷ args) = option_to_list (one o (Some a)) ++ between one os args

module _ (from to : Layout) where
  abbrev pub value_between : Operand → Option BlockArg → Option Carry
  value_between o None = None
  value_between o (Some a) = where_leaves (kept_in from o.value) (record { from = local_in from o.value; to = local_in to a.value })

  abbrev pub address_between : Operand → Option BlockArg → Option CarryAddress
  address_between o None = None
  address_between o (Some a) = where_address (kept_in from o.value) (record { from = address_in from o.value; to = address_in to a.value })

  abbrev pub values_between : List Operand → List BlockArg → List Carry
  values_between = between value_between

  abbrev pub addresses_between : List Operand → List BlockArg → List CarryAddress
  addresses_between = between address_between
