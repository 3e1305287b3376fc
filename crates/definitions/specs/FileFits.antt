-- What fits a Boolean file, and what fits a table file.
use Rattle.std.specs.Prelude.{◌≡◌, ℕ, suc, ◌<◌, ◌≤◌, Bool, List, length, Some, slice_index}
use Rattle.definitions.specs.Lists.{at, product}
use Rattle.definitions.specs.Alg.{sized}
use Rattle.definitions.specs.Solution.{Sign}
use Rattle.definitions.specs.Fits.{Every}
use Rattle.definitions.specs.Boolean.{Form, known, all, any, var, Forms, nil, cons, count, Variable}
use Rattle.definitions.specs.Tables.{Table, TableOp}

-- a body of depth at most d, over n variables, with one to 256 parts in each all or any
mutual
  pub data FormFits (n : ℕ) : ℕ → Form ℕ → Type 0 where
    fit_known : {d : ℕ} {b : Bool} → FormFits n (suc d) (known b)
    fit_all : {d : ℕ} {ps : Forms ℕ} → 1 ≤ count ps → count ps ≤ 256 → FormsFit n d ps → FormFits n (suc d) (all ps)
    fit_any : {d : ℕ} {ps : Forms ℕ} → 1 ≤ count ps → count ps ≤ 256 → FormsFit n d ps → FormFits n (suc d) (any ps)
    fit_var : {d k : ℕ} → k < n → FormFits n (suc d) (var k)

  pub data FormsFit (n : ℕ) : ℕ → Forms ℕ → Type 0 where
    fit_nil : {d : ℕ} → FormsFit n d nil
    fit_cons : {d : ℕ} {p : Form ℕ} {ps : Forms ℕ} → FormFits n d p → FormsFit n d ps → FormsFit n d (cons p ps)

-- a Boolean system: a rank has one sign, and a body has depth at most 8
pub record BooleanFits (vs : List Variable) : Type 0 where
  pub some : 1 ≤ length vs
  pub few : length vs ≤ 4096
  pub ranks : Every (λ (v : Variable). v.rank < 32) vs
  pub sign_by : ℕ → Sign
  pub signs : Every (λ (v : Variable). v.sign ≡ sign_by v.rank) vs
  pub bodies : Every (λ (v : Variable). FormFits (length vs) 8 v.body) vs

-- an operation of a table: its sorts are there, and so are its values, as many as argument lists, each a value of the result sort
pub record OpFits (sizes : List ℕ) (q : TableOp) : Type 0 where
  pub few : length q.args ≤ 3
  pub args : Every (λ s. s < length sizes) q.args
  pub res : q.res < length sizes
  pub count : length q.values ≡ product (sized sizes q.args)
  pub values : Every (λ v. v < slice_index sizes q.res) q.values

-- a table: sort 0 has two values
pub record TableFits (t : Table) : Type 0 where
  pub few : length t.sizes ≤ 16
  pub truths : at t.sizes 0 ≡ Some 2
  pub sizes : Every (λ n. (1 ≤ n) × (n ≤ 256)) t.sizes
  pub few_ops : length t.ops ≤ 63
  pub ops : Every (OpFits t.sizes) t.ops
