-- An instruction takes its operands, all of them and in their order: its row says what is done to each.
use Rattle.std.proofs.Common.{◌≡◌, ℕ, zero, suc, ◌≤◌, List, [], ◌∷◌, ◌++◌, length, map, refl, sym, ap, ◌∙◌, subst, arith, append-nil, Bool, true, false, Some}
use Rattle.std.specs.Prelude.{drop}
use Rattle.std.proofs.lemmas.Bool.{and_parts}
use Rattle.std.proofs.lemmas.List.{length-map, length-replicate}
use Rattle.instruction_table.specs.Forms.{roles_of}
use Rattle.instruction_table.specs.declared.entries.Role.{Role}
use Rattle.instruction_table.specs.declared.entries.Role.TheVariants as role
use Rattle.sil_ast.specs.declared.function.Function.{Function}
use Rattle.sil_ast.specs.declared.inst.Inst.{Inst}
use Rattle.sil_ast.specs.declared.operands.Operand.{Operand}
use Rattle.sil_ast.specs.declared.place.PointId.{PointId}
use Rattle.sil_ast.specs.declared.signature.Signature.{Signature}
use Rattle.sil_cfg.specs.declared.item.Item.TheVariants as item
use Rattle.argument_conventions.specs.Arguments.{arguments_of, conventions_of}
use Rattle.argument_conventions.specs.declared.convention.ArgumentConvention.{ArgumentConvention}
use Rattle.holder_model.specs.sil_cfg_items.Items.{taken_in}
use Rattle.holder_model.specs.sil_cfg_items.Parts.{inst_at}
use Rattle.holder_model.specs.sil_cfg_items.Roles.{by_convention, conventions_by, conventions_in, last_roles, roles_for, taken_by, taken_each}
use Rattle.holder_model.specs.sil_cfg_items.declared.taken.Treatment.{Treatment}
use Rattle.holder_model.specs.LoweredRun.LowStepParts.{taken_value, values_taken}
use Rattle.holder_model.specs.sil_types.Typing.OperandTypes.{argument_types}
use Rattle.holder_model.specs.sil_types.Typing.Same.{all_pairs}
use Rattle.holder_model.specs.RunTyping.EndForms.{value_in}

-- where something is done to each operand, all are taken
pub all_taken : (os : List Operand) (ts : List Treatment) → length os ≤ length ts → map taken_value (taken_each os ts) ≡ map value_in os
all_taken [] ts le = refl
all_taken (o ∷ os) [] le = absurd (let none : suc (length os) ≤ 0 = le in omega arith)
all_taken (o ∷ os) (t ∷ ts) le = ap (λ rest. o.value ∷ rest) (all_taken os ts (let more : suc (length os) ≤ suc (length ts) = le in omega arith))

-- the last role of a row is one that any number of operands may have
abbrev pub is_for_any : Role → Bool
is_for_any role.ByParameter = false
is_for_any _ = true

abbrev pub ends_for_any : List Role → Bool
ends_for_any [] = false
ends_for_any (r ∷ []) = is_for_any r
ends_for_any (r ∷ q ∷ rs) = ends_for_any (q ∷ rs)

last_for_all : (r : Role) (cs : List ArgumentConvention) (n : ℕ) → is_for_any r ≡ true → length (last_roles r cs n) ≡ n
last_for_all role.ByParameter cs n e = absurd (cc)
last_for_all role.Consumed cs n e = length-replicate n _
last_for_all role.Used cs n e = length-replicate n _
last_for_all role.Lent cs n e = length-replicate n _
last_for_all role.Forwarded cs n e = length-replicate n _
last_for_all role.AddressRole cs n e = length-replicate n _
last_for_all role.AnyRole cs n e = length-replicate n _
last_for_all role.ScopeRole cs n e = length-replicate n _
last_for_all role.Counted cs n e = length-replicate n _

roles_for_all : (rs : List Role) (cs : List ArgumentConvention) (n : ℕ) → ends_for_any rs ≡ true → length (roles_for rs cs n) ≡ n
roles_for_all [] cs n e = absurd (cc)
roles_for_all (r ∷ []) cs n e = last_for_all r cs n e
roles_for_all (r ∷ q ∷ rs) cs zero e = refl
roles_for_all (r ∷ q ∷ rs) cs (suc n) e = ap suc (roles_for_all (q ∷ rs) cs n e)

pub takes_any : (i : Inst) → ends_for_any (roles_of i.op) ≡ true → map taken_value (taken_by i) ≡ map value_in i.operands
takes_any i e =
    let level = roles_for_all (roles_of i.op) (conventions_in i) (length i.operands) e in
    all_taken i.operands _ (omega (arith, level))

pub takes_none : (i : Inst) → i.operands ≡ [] → map taken_value (taken_by i) ≡ map value_in i.operands
takes_none i e = of_none i.operands e
  where
    of_none : (os : List Operand) → os ≡ [] → map taken_value (taken_each os (roles_for (roles_of i.op) (conventions_in i) (length i.operands))) ≡ map value_in os
    of_none [] h = refl
    of_none (o ∷ os) h = absurd (cc)

-- ---- a call takes the function, and an argument for each convention

pub pairs_level : {A B : Type 0} (test : A → B → Bool) (xs : List A) (ys : List B) → all_pairs test xs ys ≡ true → length xs ≡ length ys
pairs_level test [] [] e = refl
pairs_level test [] (y ∷ ys) e = absurd (cc)
pairs_level test (x ∷ xs) [] e = absurd (cc)
pairs_level test (x ∷ xs) (y ∷ ys) e = ap suc (pairs_level test xs ys (and_parts (test x y) (all_pairs test xs ys) e).1)

call_level : (os : List Operand) (cs : List ArgumentConvention) (n : ℕ) → length (drop 1 os) ≡ length cs → n ≡ length os → length os ≤ length (roles_for (role.Used ∷ role.ByParameter ∷ []) cs n)
call_level [] cs n level is = omega arith
call_level (o ∷ os) cs zero level is = absurd (let no : 0 ≡ suc (length os) = is in omega arith)
call_level (o ∷ os) cs (suc n) level is =
    let each : length (map by_convention cs) ≡ length cs = length-map cs by_convention in
    let args : length os ≡ length cs = level in
    let goal : suc (length os) ≤ suc (length (map by_convention cs)) = omega arith in goal

pub takes_arguments : (i : Inst) (s : Signature) → roles_of i.op ≡ role.Used ∷ role.ByParameter ∷ [] → i.signature ≡ Some s
    → length (drop 1 i.operands) ≡ length (argument_types s) → map taken_value (taken_by i) ≡ map value_in i.operands
takes_arguments i s row is level =
    all_taken i.operands (roles_for (roles_of i.op) (conventions_in i) (length i.operands))
    (subst (λ rs. length i.operands ≤ length (roles_for rs (conventions_in i) (length i.operands))) (sym row)
    (call_level i.operands (conventions_in i) (length i.operands) (level ∙ length-map (arguments_of s) _ ∙ sym told) refl))
  where
    told : length (conventions_in i) ≡ length (arguments_of s)
    told = ap (λ x. length (conventions_by x)) is ∙ ap length (append-nil (conventions_of s)) ∙ length-map (arguments_of s) (λ a. a.convention)

-- ---- the item

pub item_takes : (f : Function) (p : PointId) (i : Inst) → inst_at f p ≡ Some i → map taken_value (taken_by i) ≡ map value_in i.operands
    → values_taken f (item.Inst p) ≡ map value_in i.operands
item_takes f p i here e = ap (λ x. map taken_value (taken_in x ++ [])) here ∙ ap (map taken_value) (append-nil (taken_by i)) ∙ e
