-- Which operations an instruction does: one alone, or those at the addresses that a call is handed.
use Rattle.std.proofs.Common.{◌≡◌, inl, inr, ℕ, zero, suc, List, [], ◌∷◌, length, map, refl, sym, ap, ◌∙◌, Bool, true, false, ◌&&◌, ◌||◌, Option, Some, None}
use Rattle.std.specs.Prelude.{Contains, cond, flat_map, option_map, replicate}
use Rattle.std.specs.Option.{option_or, option_to_list}
use Rattle.std.proofs.lemmas.Bool.{false≢true, true≢false}
use Rattle.std.proofs.lemmas.Option.{none-some, same_Some}
use Rattle.argument_conventions.specs.Rows.{address_row, row_of}
use Rattle.argument_conventions.specs.declared.convention.AddressConvention.{AddressConvention}
use Rattle.argument_conventions.specs.declared.convention.ArgumentConvention.{ArgumentConvention}
use Rattle.argument_conventions.specs.declared.convention.ArgumentConvention.TheVariants as convention
use Rattle.argument_conventions.specs.declared.row.AddressRow.{AddressRow}
use Rattle.instruction_table.specs.Forms.{roles_of}
use Rattle.instruction_table.specs.declared.entries.Role.{Role}
use Rattle.instruction_table.specs.declared.entries.Role.TheVariants as role
use Rattle.instruction_table.specs.declared.op.Op.{Op}
use Rattle.instruction_table.specs.declared.op.Op.TheVariants as op
use Rattle.sil_verifier_values.specs.memory_rules_accesses.Operations.{access_kind_of, is_address_role, load_operation, operated, operated_at}
use Rattle.sil_verifier_values.specs.memory_rules_accesses.Operations.{operation_at, operation_by, operations_of, store_operation}
use Rattle.sil_verifier_values.specs.memory_rules_accesses.declared.access.Operated.{Operated}
use Rattle.sil_verifier_values.specs.memory_rules_accesses.declared.access.Operation.{Operation}
use Rattle.sil_verifier_values.specs.memory_rules_accesses.declared.access.Operation.TheVariants.{Handed}
use Rattle.sil_verifier_values.specs.memory_rules_accesses.declared.columns.AccessKind.{AccessKind}
use Rattle.sil_verifier_values.specs.memory_rules_accesses.declared.columns.AccessKind.TheVariants as access
use Rattle.sil_cfg_items.specs.Roles.{by_convention, by_row, conventions_in, last_roles, roles_for, taken_as, taken_by, taken_each}
use Rattle.sil_cfg_items.specs.declared.taken.Taken.{Taken}
use Rattle.sil_cfg_items.specs.declared.taken.Treatment.{Treatment}
use Rattle.numbered_form.specs.Lists.{Each, is_empty}
use Rattle.numbered_form.specs.inner.Parts.{first_then, has_operands, is_bare, is_typed}
use Rattle.numbered_form.proofs.PointChecks.Among.{Among, among_contained, contained_among, flat_among}
use Rattle.sil_ast.specs.declared.inst.Inst.{Inst}
use Rattle.sil_ast.specs.declared.inst.Qualifier.{Qualifier}
use Rattle.sil_ast.specs.declared.inst.Qualifier.TheVariants as word
use Rattle.sil_ast.specs.declared.operands.Operand.{Operand}
use Rattle.sil_verifier_trails.proofs.AcceptedPlaces.PartsThere.{each_where_among}

-- ---- by its row

-- it does something at the one address that it takes
abbrev pub operates : AccessKind → Bool
operates access.LendsLocation = true
operates access.Loads = true
operates access.Stores = true
operates access.Destroys = true
operates _ = false

abbrev pub passes : AccessKind → Bool
passes access.Passes = true
passes _ = false

abbrev takes_arguments : List Role → Bool
takes_arguments [] = false
takes_arguments (role.ByParameter ∷ rs) = true
takes_arguments (_ ∷ rs) = takes_arguments rs

-- by computation, over all rows
arguments_passed : (o : Op) → takes_arguments (roles_of o) ≡ true → passes (access_kind_of o) ≡ true
arguments_passed op.Apply e = refl
arguments_passed _ e = absurd (false≢true e)

operation_kinds : (k : AccessKind) (q : Qualifier) (o : Operation) → operation_by k q ≡ Some o → operates k ≡ true
operation_kinds access.LendsLocation q o e = refl
operation_kinds access.Loads q o e = refl
operation_kinds access.Stores q o e = refl
operation_kinds access.Destroys q o e = refl
operation_kinds _ q o e = absurd (none-some o e)

-- none of these hands anything over
loads_none : (q : Qualifier) (row : AddressRow) → load_operation q ≡ Handed row → ⊥
loads_none word.Plain row e = cc
loads_none word.Copy row e = cc
loads_none word.Take row e = cc
loads_none word.Trivial row e = cc
loads_none word.Init row e = cc
loads_none word.Assign row e = cc

stores_none : (q : Qualifier) (row : AddressRow) → store_operation q ≡ Handed row → ⊥
stores_none word.Plain row e = cc
stores_none word.Copy row e = cc
stores_none word.Take row e = cc
stores_none word.Trivial row e = cc
stores_none word.Init row e = cc
stores_none word.Assign row e = cc

pub none_handed_by_row : (k : AccessKind) (q : Qualifier) (row : AddressRow) → operation_by k q ≡ Some (Handed row) → ⊥
none_handed_by_row access.LendsLocation q row e = cc
none_handed_by_row access.Loads q row e = loads_none q row (same_Some (load_operation q) (Handed row) e)
none_handed_by_row access.Stores q row e = stores_none q row (same_Some (store_operation q) (Handed row) e)
none_handed_by_row access.Destroys q row e = cc
none_handed_by_row _ q row e = none-some (Handed row) e

-- ---- what is handed over

-- the row of one of the conventions
abbrev pub IsRow : AddressRow → Type 0
IsRow row = (c : AddressConvention) × (row ≡ row_of c)

abbrev IsHandedSo : Option AddressRow → Type 0
IsHandedSo o = (row : AddressRow) → o ≡ Some row → IsRow row

abbrev IsTreatedSo : Treatment → Type 0
IsTreatedSo t = IsHandedSo t.handed

address_rows : (c : ArgumentConvention) → IsHandedSo (address_row c)
address_rows convention.Plain row e = absurd (none-some row e)
address_rows convention.Owned row e = absurd (none-some row e)
address_rows convention.Guaranteed row e = absurd (none-some row e)
address_rows (convention.Address c) row e = (c, sym (same_Some (row_of c) row e))

none_handed : (row : AddressRow) → None ≡ Some row → IsRow row
none_handed row e = absurd (none-some row e)

each_convention : (cs : List ArgumentConvention) → Each IsTreatedSo (map by_convention cs)
each_convention [] = tt
each_convention (c ∷ cs) = (address_rows c, each_convention cs)

each_again : (P : Treatment → Type 0) (t : Treatment) → P t → (n : ℕ) → Each P (replicate n t)
each_again P t h zero = tt
each_again P t h (suc n) = (h, each_again P t h n)

last_so : (r : Role) (cs : List ArgumentConvention) (n : ℕ) → Each IsTreatedSo (last_roles r cs n)
last_so role.ByParameter cs n = each_convention cs
last_so role.Consumed cs n = each_again IsTreatedSo (by_row role.Consumed) none_handed n
last_so role.Used cs n = each_again IsTreatedSo (by_row role.Used) none_handed n
last_so role.Lent cs n = each_again IsTreatedSo (by_row role.Lent) none_handed n
last_so role.Forwarded cs n = each_again IsTreatedSo (by_row role.Forwarded) none_handed n
last_so role.AddressRole cs n = each_again IsTreatedSo (by_row role.AddressRole) none_handed n
last_so role.AnyRole cs n = each_again IsTreatedSo (by_row role.AnyRole) none_handed n
last_so role.ScopeRole cs n = each_again IsTreatedSo (by_row role.ScopeRole) none_handed n
last_so role.Counted cs n = each_again IsTreatedSo (by_row role.Counted) none_handed n

treated_so : (rs : List Role) (cs : List ArgumentConvention) (n : ℕ) → Each IsTreatedSo (roles_for rs cs n)
treated_so [] cs n = tt
treated_so (r ∷ []) cs n = last_so r cs n
treated_so (r ∷ q ∷ rs) cs zero = tt
treated_so (r ∷ q ∷ rs) cs (suc n) = (none_handed, treated_so (q ∷ rs) cs n)

-- where no role is by a parameter nothing is handed over
abbrev IsUnhanded : Treatment → Type 0
IsUnhanded t = t.handed ≡ None

last_unhanded : (r : Role) (cs : List ArgumentConvention) (n : ℕ) → takes_arguments (r ∷ []) ≡ false → Each IsUnhanded (last_roles r cs n)
last_unhanded role.ByParameter cs n e = absurd (true≢false e)
last_unhanded role.Consumed cs n e = each_again IsUnhanded (by_row role.Consumed) refl n
last_unhanded role.Used cs n e = each_again IsUnhanded (by_row role.Used) refl n
last_unhanded role.Lent cs n e = each_again IsUnhanded (by_row role.Lent) refl n
last_unhanded role.Forwarded cs n e = each_again IsUnhanded (by_row role.Forwarded) refl n
last_unhanded role.AddressRole cs n e = each_again IsUnhanded (by_row role.AddressRole) refl n
last_unhanded role.AnyRole cs n e = each_again IsUnhanded (by_row role.AnyRole) refl n
last_unhanded role.ScopeRole cs n e = each_again IsUnhanded (by_row role.ScopeRole) refl n
last_unhanded role.Counted cs n e = each_again IsUnhanded (by_row role.Counted) refl n

others_unhanded : (r : Role) (rs : List Role) → takes_arguments (r ∷ rs) ≡ false → takes_arguments rs ≡ false
others_unhanded role.ByParameter rs e = absurd (true≢false e)
others_unhanded role.Consumed rs e = e
others_unhanded role.Used rs e = e
others_unhanded role.Lent rs e = e
others_unhanded role.Forwarded rs e = e
others_unhanded role.AddressRole rs e = e
others_unhanded role.AnyRole rs e = e
others_unhanded role.ScopeRole rs e = e
others_unhanded role.Counted rs e = e

treated_unhanded : (rs : List Role) (cs : List ArgumentConvention) (n : ℕ) → takes_arguments rs ≡ false → Each IsUnhanded (roles_for rs cs n)
treated_unhanded [] cs n e = tt
treated_unhanded (r ∷ []) cs n e = last_unhanded r cs n e
treated_unhanded (r ∷ q ∷ rs) cs zero e = tt
treated_unhanded (r ∷ q ∷ rs) cs (suc n) e = (refl, treated_unhanded (q ∷ rs) cs n (others_unhanded r (q ∷ rs) e))

taken_so : (P : Treatment → Type 0) (Q : Taken → Type 0) → ((o : Operand) (t : Treatment) → P t → Q (taken_as o t)) → (os : List Operand) (ts : List Treatment)
    → Each P ts → Each Q (taken_each os ts)
taken_so P Q go [] ts h = tt
taken_so P Q go (o ∷ os) [] h = tt
taken_so P Q go (o ∷ os) (t ∷ ts) h = (go o t h.0, taken_so P Q go os ts h.1)

module _ (i : Inst) where
  rows_taken : Each (λ (t : Taken). IsHandedSo t.handed) (taken_by i)
  rows_taken =
      taken_so IsTreatedSo (λ t. IsHandedSo t.handed) (λ o t h. h) i.operands (roles_for (roles_of i.op) (conventions_in i) (length i.operands))
      (treated_so (roles_of i.op) (conventions_in i) (length i.operands))

  unhanded_taken : takes_arguments (roles_of i.op) ≡ false → Each (λ (t : Taken). t.handed ≡ None) (taken_by i)
  unhanded_taken e =
      taken_so IsUnhanded (λ t. t.handed ≡ None) (λ o t h. h) i.operands (roles_for (roles_of i.op) (conventions_in i) (length i.operands))
      (treated_unhanded (roles_of i.op) (conventions_in i) (length i.operands) e)

  -- an operation is that of the row, or what is handed over
  pub data IsDoneBy (o : Operated) : Type 0 where
    of_row : operates (access_kind_of i.op) ≡ true → operation_by (access_kind_of i.op) i.qualifier ≡ Some o.operation → IsDoneBy o
    of_call : (row : AddressRow) → o.operation ≡ Handed row → IsRow row → passes (access_kind_of i.op) ≡ true → IsDoneBy o

  abbrev kind : AccessKind
  kind = access_kind_of i.op

  done_at : (o : Operated) (t : Taken) (x : Option Operation) → Among o (option_to_list (option_map (operated t.value) x)) → (y : Operation) × (x ≡ Some y) × (o.operation ≡ y)
  done_at o t None a = absurd a
  done_at o t (Some y) (inl e) = (y, refl, ap (λ (z : Operated). z.operation) e)
  done_at o t (Some y) (inr a) = absurd a

  row_done : (b : Bool) (y : Operation) → cond b (operation_by kind i.qualifier) None ≡ Some y → operation_by kind i.qualifier ≡ Some y
  row_done true y e = e
  row_done false y e = absurd (none-some y e)

  handed_passed : (t : Taken) (row : AddressRow) → Among t (taken_by i) → t.handed ≡ Some row → passes kind ≡ true
  handed_passed t row a e = at (takes_arguments (roles_of i.op)) refl
    where
      at : (b : Bool) → takes_arguments (roles_of i.op) ≡ b → passes kind ≡ true
      at true is = arguments_passed i.op is
      at false is = absurd (none-some row (sym (each_where_among (λ (t : Taken). t.handed ≡ None) (taken_by i) t (unhanded_taken is) a) ∙ e))

  taken_done : (o : Operated) (t : Taken) (h : Option AddressRow) → t.handed ≡ h → Among t (taken_by i) → (y : Operation)
      → option_or (option_map Handed h) (cond (is_address_role t.role) (operation_by kind i.qualifier) None) ≡ Some y → o.operation ≡ y → IsDoneBy o
  taken_done o t None is a y e same =
      let row = row_done (is_address_role t.role) y e in of_row (operation_kinds kind i.qualifier y row) (row ∙ ap (λ z. Some z) (sym same))
  taken_done o t (Some row) is a y e same =
      of_call row (same ∙ sym (same_Some (Handed row) y e))
      (each_where_among (λ (t : Taken). IsHandedSo t.handed) (taken_by i) t rows_taken a row is) (handed_passed t row a is)

  pub done_by : (o : Operated) → Contains (operations_of i) o → IsDoneBy o
  done_by o c =
      let at = flat_among (operated_at kind i.qualifier) o (taken_by i) (among_contained o (operations_of i) c) in
      let y = done_at o at.0 (operation_at kind i.qualifier at.0) at.2 in
      taken_done o at.0 at.0.handed refl at.1 y.0 y.1 y.2

  -- others do nothing
  pub none_done : operates kind ≡ false → passes kind ≡ false → operations_of i ≡ []
  none_done idle silent = empty (operations_of i) (λ o c. by (done_by o c))
    where
      by : {o : Operated} → IsDoneBy o → ⊥
      by (of_row e row) = true≢false (sym e ∙ idle)
      by (of_call row is so e) = true≢false (sym e ∙ silent)

      empty : (xs : List Operated) → ((o : Operated) → Contains xs o → ⊥) → xs ≡ []
      empty [] none = refl
      empty (o ∷ os) none = absurd (none o (contained_among o (o ∷ os) (inl refl)))

-- ---- one alone

two_operands : (first second : Operand → Bool) (os : List Operand) → (first_then first (first_then second is_empty) os || (false && is_empty os)) ≡ true
    → (x y : Operand) × (os ≡ x ∷ (y ∷ []))
two_operands first second [] e = cc
two_operands first second (x ∷ []) e = absurd (no (first x) e)
  where
    no : (b : Bool) → ((b && false) || false) ≡ true → ⊥
    no true h = false≢true h
    no false h = false≢true h
two_operands first second (x ∷ y ∷ []) e = (x, y, refl)
two_operands first second (x ∷ y ∷ z ∷ os) e = absurd (no (first x) (second y) e)
  where
    no : (b c : Bool) → ((b && (c && false)) || false) ≡ true → ⊥
    no true true h = false≢true h
    no true false h = false≢true h
    no false c h = false≢true h

pub one_operand : (test : Operand → Bool) (os : List Operand) → (first_then test is_empty os || (false && is_empty os)) ≡ true → (x : Operand) × (os ≡ x ∷ [])
one_operand test [] e = cc
one_operand test (x ∷ []) e = (x, refl)
one_operand test (x ∷ y ∷ os) e = absurd (no (test x) e)
  where
    no : (b : Bool) → ((b && false) || false) ≡ true → ⊥
    no true h = false≢true h
    no false h = false≢true h

module _ (i : Inst) where
  abbrev Alone : Type 0
  Alone = (o : Operated) × (operations_of i ≡ o ∷ [])

  abbrev pub done_with : Op → List Operand → List Operated
  done_with o os = flat_map (operated_at (access_kind_of o) i.qualifier) (taken_each os (roles_for (roles_of o) (conventions_in i) (length os)))

  with_one : (o : Op) → i.op ≡ o → (x : Operand) → i.operands ≡ x ∷ [] → (y : Operated) → done_with o (x ∷ []) ≡ y ∷ [] → Alone
  with_one o is x only y e = (y, ap (λ z. done_with z i.operands) is ∙ ap (done_with o) only ∙ e)

  with_two : (o : Op) → i.op ≡ o → (x z : Operand) → i.operands ≡ x ∷ (z ∷ []) → (y : Operated) → done_with o (x ∷ (z ∷ [])) ≡ y ∷ [] → Alone
  with_two o is x z only y e = (y, ap (λ z. done_with z i.operands) is ∙ ap (done_with o) only ∙ e)

  pub alone : (o : Op) → i.op ≡ o → operates (access_kind_of o) ≡ true → has_operands o i.operands ≡ true → Alone
  alone op.Load is e h = let one = one_operand is_typed i.operands h in with_one op.Load is one.0 one.1 _ refl
  alone op.LoadBorrow is e h = let one = one_operand is_typed i.operands h in with_one op.LoadBorrow is one.0 one.1 _ refl
  alone op.DestroyAddr is e h = let one = one_operand is_typed i.operands h in with_one op.DestroyAddr is one.0 one.1 _ refl
  alone op.LoadWeak is e h = let one = one_operand is_typed i.operands h in with_one op.LoadWeak is one.0 one.1 _ refl
  alone op.LoadUnowned is e h = let one = one_operand is_typed i.operands h in with_one op.LoadUnowned is one.0 one.1 _ refl
  alone op.Store is e h = let two = two_operands is_bare is_typed i.operands h in with_two op.Store is two.0 two.1 two.2 _ refl
  alone op.StoreWeak is e h = let two = two_operands is_bare is_typed i.operands h in with_two op.StoreWeak is two.0 two.1 two.2 _ refl
  alone op.StoreUnowned is e h = let two = two_operands is_bare is_typed i.operands h in with_two op.StoreUnowned is two.0 two.1 two.2 _ refl
  alone _ is e h = absurd (false≢true e)
