-- The kinds of operands by what is done to them, and of results by the kinds of operands.
use Rattle.std.specs.Prelude.{◌≡◌, ◌⊎◌, ⊤, ℕ, List, Bool, true, Contains, Some, cond, map, slice_get}
use Rattle.instruction_table.specs.Forms.{result_kind_of}
use Rattle.instruction_table.specs.declared.entries.ResultKind.{ResultKind}
use Rattle.instruction_table.specs.declared.entries.ResultKind.TheVariants.{NoneResult, OwnedResult, ScopeResult, AddressResult, ForwardedResult, OperandResult}
use Rattle.instruction_table.specs.declared.entries.Role.{Role}
use Rattle.instruction_table.specs.declared.entries.Role.TheVariants as role
use Rattle.sil_cfg_items.specs.Items.{item_taken}
use Rattle.sil_cfg_items.specs.declared.taken.Taken.{Taken}
use Rattle.numbered_form.specs.Lists.{Each}
use Rattle.holder_model_typing.specs.ownership_kinds_chains.OwnershipChains.Facts.{forwarded}
use Rattle.sil_verifier_accepted.specs.ownership_kinds.Statics.{forwards}
use Rattle.holder_model_typing.specs.ownership_kinds_origins.Origins.{is_trivial_or_untyped}
use Rattle.numbered_form.specs.PointChecks.Points.{IsAt}
use Rattle.sil_ast.specs.declared.function.Function.{Function}
use Rattle.sil_ast.specs.declared.inst.Inst.{Inst}
use Rattle.sil_ast.specs.declared.place.ValueId.{ValueId}
use Rattle.sil_cfg.specs.declared.item.Item.{Item}
use Rattle.holder_model_typing.specs.sil_types_declarations.TypeDefinitions.Declarations.{Declarations}
use Rattle.holder_model_typing.specs.sil_types_declarations.declared.type_definitions.kind.Kind.{Kind}
use Rattle.holder_model_typing.specs.sil_types_declarations.declared.type_definitions.kind.Kind.TheVariants as kind
use Rattle.numbered_form.specs.ValueTables.Borrows.{is_borrow}
use Rattle.numbered_form.specs.ValueTables.FirstValue.{value_of}
use Rattle.sil_verifier_values.specs.inner.Known.{InAccepted, facts_at, kind_at, type_in}

-- ---- operands

-- what may be consumed: an Owned value, or one that has no owner
abbrev pub MayEnd : Declarations → Function → ValueId → Type 0
MayEnd d f v = (kind_at d f v ≡ kind.Owned) ⊎ (kind_at d f v ≡ kind.Plain)

-- what a part may be taken of: a Guaranteed value, or one that has no owner
abbrev pub MayLend : Declarations → Function → ValueId → Type 0
MayLend d f v = (kind_at d f v ≡ kind.Guaranteed) ⊎ (kind_at d f v ≡ kind.Plain)

-- it has no owner: it holds no reference, or is an address or a function
abbrev pub HasNoOwner : Declarations → Function → ValueId → Type 0
HasNoOwner d f v = kind_at d f v ≡ kind.Plain

-- the operand is of a kind that its role takes
abbrev pub SuitsRole : Declarations → Function → Role → ValueId → Type 0
SuitsRole d f role.Consumed v = MayEnd d f v
SuitsRole d f role.Used v = ⊤
SuitsRole d f role.Lent v = MayLend d f v
SuitsRole d f role.Forwarded v = ⊤
SuitsRole d f role.AddressRole v = ⊤
SuitsRole d f role.AnyRole v = ⊤
SuitsRole d f role.ScopeRole v = is_borrow f v ≡ true
SuitsRole d f role.ByParameter v = ⊤
SuitsRole d f role.Counted v = ⊤

-- each operand of an item is so
abbrev pub AreSuited : Type 0
AreSuited = InAccepted (λ d f. (i : Item) (t : Taken) → Contains (item_taken f i) t → SuitsRole d f t.role t.value)

-- the operands from which something of this kind is made: one that has no owner may stand among others
abbrev pub Forwards : Declarations → Function → Kind → List ValueId → Type 0
Forwards d f kind.Owned vs = Each (MayEnd d f) vs
Forwards d f kind.Guaranteed vs = Each (MayLend d f) vs
Forwards d f kind.Plain vs = Each (HasNoOwner d f) vs

-- the kind that an instruction's operands have together
abbrev pub kind_together : Declarations → Function → Inst → Kind
kind_together d f i = forwarded (facts_at d f) (map value_of i.operands)

-- an instruction that forwards has no Owned and Guaranteed operands at once
abbrev pub AreForwarded : Type 0
AreForwarded = InAccepted (λ d f. (block index : ℕ) (i : Inst) → IsAt f block index i → forwards i ≡ true
    → Forwards d f (kind_together d f i) (map value_of i.operands))

-- ---- results

-- the kind of a result whose type isn't trivial, where the operands have this kind together
abbrev pub kind_by_row : ResultKind → Kind → Kind
kind_by_row NoneResult k = kind.Plain
kind_by_row OwnedResult k = kind.Owned
kind_by_row ScopeResult k = kind.Guaranteed
kind_by_row AddressResult k = kind.Plain
kind_by_row ForwardedResult k = k
kind_by_row OperandResult k = k

abbrev pub kind_of_result : Declarations → Function → Inst → Bool → Kind
kind_of_result d f i trivial = cond trivial kind.Plain (kind_by_row (result_kind_of i.op) (kind_together d f i))

-- a result is Plain where its type is trivial, and else of the kind that its row says
abbrev pub AreResultsOfKinds : Type 0
AreResultsOfKinds = InAccepted (λ d f. (block index k : ℕ) (i : Inst) (v : ValueId) → IsAt f block index i → slice_get i.results k ≡ Some v
    → kind_at d f v ≡ kind_of_result d f i (is_trivial_or_untyped d (type_in d f v)))

-- a value of a trivial type, and one without a type, has no owner
abbrev pub AreTrivialPlain : Type 0
AreTrivialPlain = InAccepted (λ d f. (v : ValueId) → is_trivial_or_untyped d (type_in d f v) ≡ true → HasNoOwner d f v)
