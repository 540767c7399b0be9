-- What is read of tokens, by the grammar and under the conversion to data.

use Rattle.std.proofs.Common.{◌≡◌, ◌<◌, ◌≤◌, ◌-◌, ℕ, suc, List, [], ◌∷◌, ◌++◌, map, length, Option, Some, None, option_map, Ok, sym, ap, ap₂, subst, ◌∙◌, refl, arith}
use Rattle.std.proofs.lemmas.List.{map-append}
use Rattle.json.specs.Json as json
use Rattle.json.specs.{Json.{value, items, after_end_array, parse_map}, Token.Token}
use Rattle.json.specs.Token as tokens
use Rattle.json.proofs.Grammar.{value_is, value-begin_array}
use Rattle.serde_json.specs.{Data.{Data, array, Items, no_items, item}, Read.{of_json, of_items, converted}, View.{view, items_of, items_view}, declared.value.Value.Value}
use Rattle.ert_scenario.proofs.{Reading.{converted-array, item_read, items_over}, Listed.list_of_items}
use Rattle.ert_ops.specs.declared.op.Op.{Op}
use Rattle.ert_scenario.specs.{Kinds.{of_kind, listed}, Quick.{scalar_of, ReadsOp, ReadsOps}, Rows.{op_from, op_of}, Walked.without_fault, Walks.raws_of, declared.doer.ListDoer.TheVariants.Everyone, declared.format.Format.Format}

number_read : (depth : ℕ) (o : Option Data) (d : Data) (rest : List Token) → o ≡ Some d → option_map {U = Data × List Token} (λ b. (b, rest)) o ≡ Some (d, rest)
number_read depth o d rest h = ap (option_map {U = Data × List Token} (λ b. (b, rest))) h

-- a token that is a whole value
pub scalar_read : (depth : ℕ) (t : Token) (d : Data) (rest : List Token) → scalar_of t ≡ Some d → converted of_json (value depth (t ∷ rest)) ≡ Some (d, rest)
scalar_read depth tokens.begin_object d rest h = absurd (cc)
scalar_read depth tokens.end_object d rest h = absurd (cc)
scalar_read depth tokens.begin_array d rest h = absurd (cc)
scalar_read depth tokens.end_array d rest h = absurd (cc)
scalar_read depth (tokens.key s) d rest h = absurd (cc)
scalar_read depth (tokens.string s) d rest h = ap (converted of_json) (value_is depth (tokens.string s ∷ rest)) ∙ ap (option_map {U = Data × List Token} (λ b. (b, rest))) h
scalar_read depth (tokens.number s) d rest h = ap (converted of_json) (value_is depth (tokens.number s ∷ rest)) ∙ ap (option_map {U = Data × List Token} (λ b. (b, rest))) h
scalar_read depth (tokens.boolean b) d rest h = ap (converted of_json) (value_is depth (tokens.boolean b ∷ rest)) ∙ ap (option_map {U = Data × List Token} (λ b. (b, rest))) h
scalar_read depth tokens.null d rest h = absurd (cc)
scalar_read depth tokens.bad d rest h = absurd (cc)

-- an array, from its items
pub array_read : (depth : ℕ) (ts new : List Token) (ds : Items) → converted of_items (items (value depth) (length ts) ts) ≡ Some (ds, new)
    → converted of_json (value (suc depth) (tokens.begin_array ∷ ts)) ≡ Some (array ds, new)
array_read depth ts new ds h =
    let less : suc depth - 1 ≡ depth = omega arith in
    let opened = value-begin_array (suc depth) ts (omega arith) ∙ ap (λ k. parse_map json.array (items (value k) (length ts) ts)) less in
    ap (converted of_json) opened ∙ converted-array (items (value depth) (length ts) ts) ∙ ap (parse_map array) h

-- an op, from its items
pub op_read : (format : Format) (ts new : List Token) (vs : List Value) (op : Op)
    → ((depth : ℕ) → converted of_items (items (value depth) (length ts) ts) ≡ Some (items_view vs, new)) → op_from format Everyone (map view vs) ≡ Ok op
    → ReadsOp format (tokens.begin_array ∷ ts) new op
unfolding op_of listed of_kind
op_read format ts new vs op reads is = record {
  value_is = array (items_view vs);
  reads = λ depth. array_read depth ts new (items_view vs) (reads depth);
  is = ap (op_from format Everyone) (list_of_items (map view vs)) ∙ is;
}

-- ---- items one after another

abbrev pub data_before : List Data → Items → Items
data_before [] rest = rest
data_before (d ∷ ds) rest = item d (data_before ds rest)

data_before-no_items : (ds : List Data) → data_before ds no_items ≡ items_of ds
data_before-no_items [] = refl
data_before-no_items (d ∷ ds) = ap (item d) (data_before-no_items ds)

data_push : (ds : List Data) (d : Data) (rest : Items) → data_before ds (item d rest) ≡ data_before (ds ++ d ∷ []) rest
data_push [] d rest = refl
data_push (e ∷ ds) d rest = ap (item e) (data_push ds d rest)

one_more : (ds : List Data) (d : Data) (r : Option (Items × List Token)) → parse_map (data_before ds) (parse_map (item d) r) ≡ parse_map (data_before (ds ++ d ∷ [])) r
one_more ds d None = refl
one_more ds d (Some p) = ap (λ xs. Some (xs, p.1)) (data_push ds d p.0)

none_before : (r : Option (Items × List Token)) → r ≡ parse_map (λ a. a) r
none_before None = refl
none_before (Some p) = refl

-- of the tokens after the bracket, those before `reader` are these data, whatever number of levels stands there
pub record DataSoFar (levels : ℕ → ℕ) (initial reader : List Token) (ds : List Data) : Type 0 where
  pub n : ℕ
  pub enough : length reader ≤ n
  pub within : length reader ≤ length initial
  pub reads : (depth : ℕ)
      → converted of_items (items (value (levels depth)) (length initial) initial) ≡ parse_map (data_before ds) (converted of_items (items (value (levels depth)) n reader))

data_start : (levels : ℕ → ℕ) (ts : List Token) → DataSoFar levels ts ts []
data_start levels ts = record { n = length ts; enough = omega arith; within = omega arith; reads = λ depth. none_before _ }

data_more : (levels : ℕ → ℕ) (initial ts rest : List Token) (ds : List Data) (d : Data) → DataSoFar levels initial ts ds → after_end_array ts ≡ None
    → length rest < length ts → ((depth : ℕ) → converted of_json (value (levels depth) ts) ≡ Some (d, rest)) → DataSoFar levels initial rest (ds ++ d ∷ [])
data_more levels initial ts rest ds d s going less one =
    let enough = s.enough in
    let within = s.within in
    record {
      n = s.n - 1;
      enough = omega arith;
      within = omega arith;
      reads = λ depth.
          s.reads depth ∙ ap (parse_map (data_before ds)) (item_read (value (levels depth)) s.n ts rest d (omega arith) going (one depth)) ∙ one_more ds d _;
    }

data_done : (levels : ℕ → ℕ) (initial ts r : List Token) (ds : List Data) → DataSoFar levels initial ts ds → after_end_array ts ≡ Some r
    → (depth : ℕ) → converted of_items (items (value (levels depth)) (length initial) initial) ≡ Some (items_of ds, r)
data_done levels initial ts r ds s over depth =
    s.reads depth ∙ ap (parse_map (data_before ds)) (items_over (value (levels depth)) s.n ts r s.enough over) ∙ ap (λ xs. Some (xs, r)) (data_before-no_items ds)

-- ---- scalars of an array

abbrev pub ItemsSoFar : List Token → List Token → List Value → Type 0
ItemsSoFar initial reader vs = DataSoFar (λ depth. depth) initial reader (map view vs)

pub items_more : (initial ts rest : List Token) (t : Token) (vs : List Value) (v : Value) → ItemsSoFar initial ts vs → after_end_array ts ≡ None → ts ≡ t ∷ rest
    → scalar_of t ≡ Some (view v) → ItemsSoFar initial rest (vs ++ v ∷ [])
items_more initial ts rest t vs v s going first is =
    let size : length ts ≡ length (t ∷ rest) = ap length first in
    subst (DataSoFar (λ depth. depth) initial rest) (sym (map-append view vs (v ∷ [])))
    (data_more (λ depth. depth) initial ts rest (map view vs) (view v) s going (omega arith)
    (λ depth. ap (λ us. converted of_json (value depth us)) first ∙ scalar_read depth t (view v) rest is))

pub items_done : (initial ts r : List Token) (vs : List Value) → ItemsSoFar initial ts vs → after_end_array ts ≡ Some r
    → (depth : ℕ) → converted of_items (items (value depth) (length initial) initial) ≡ Some (items_view vs, r)
items_done initial ts r vs s over = data_done (λ depth. depth) initial ts r (map view vs) s over

-- ---- ops of a list

raws_push : (format : Format) (ds : List Data) (d : Data) (ops : List Op) (op : Op) → raws_of format Everyone ds ≡ without_fault ops → op_of format Everyone d ≡ Ok op
    → raws_of format Everyone (ds ++ d ∷ []) ≡ without_fault (ops ++ op ∷ [])
raws_push format ds d ops op h e =
    map-append (op_of format Everyone) ds (d ∷ []) ∙ ap₂ (λ xs x. xs ++ x ∷ []) h e ∙ sym (map-append Ok ops (op ∷ []))

-- of the tokens after the bracket, those before `reader` are these ops
pub record OpsSoFar (format : Format) (initial reader : List Token) (ops : List Op) : Type 0 where
  pub values : List Data
  pub reads : DataSoFar suc initial reader values
  pub are : raws_of format Everyone values ≡ without_fault ops

pub ops_start : (format : Format) (ts : List Token) (ops : List Op) → ops ≡ [] → OpsSoFar format ts ts ops
ops_start format ts ops none = subst (OpsSoFar format ts ts) (sym none) (record { values = []; reads = data_start suc ts; are = refl })

pub ops_more : (format : Format) (initial ts rest : List Token) (ops : List Op) (op : Op) → OpsSoFar format initial ts ops → after_end_array ts ≡ None
    → ReadsOp format ts rest op → length rest < length ts → OpsSoFar format initial rest (ops ++ op ∷ [])
ops_more format initial ts rest ops op s going one less = record {
  values = s.values ++ one.value_is ∷ [];
  reads = data_more suc initial ts rest s.values one.value_is s.reads going less one.reads;
  are = raws_push format s.values one.value_is ops op s.are one.is;
}

pub ops_done : (format : Format) (initial ts r : List Token) (ops : List Op) → OpsSoFar format initial ts ops → after_end_array ts ≡ Some r
    → ReadsOps format (tokens.begin_array ∷ initial) r ops
ops_done format initial ts r ops s over = record {
  values = s.values;
  reads = λ depth. array_read (suc depth) initial r (items_of s.values) (data_done suc initial ts r s.values s.reads over depth);
  are = s.are;
}
