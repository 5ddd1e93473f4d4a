-- The records of a body: those taken as new stand in the order of their bytes, and those of a book are all taken.
use Rattle.std.proofs.Common.{◌≡◌, ℕ, zero, suc, ◌+◌, ◌*◌, ◌≤◌, Bool, true, false, cond, List, [], ◌∷◌, ◌++◌, length, take, drop, Ok, Err, Result, sym, refl, ap, ◌∙◌, append_assoc, suc-mul, zero-mul, arith}
use Rattle.std.specs.List.{flat_map}
use Rattle.std.proofs.lemmas.List.{append-nil, length_push, length-drop, length-take-le, take_at, drop_at}
use Rattle.std.proofs.lemmas.Bool.{eq-eqb}
use Rattle.access.specs.Codes.{Code}
use Rattle.access.specs.Lists.{Lists}
use Rattle.access.specs.Orders.{InTurn}
use Rattle.catalogue.specs.declared.names.ListName.{ListName}
use Rattle.catalogue.specs.Calls.{Outcome}
use Rattle.book.specs.Gathered.{called}
use Rattle.image.specs.Layout.{width_of, part_of}
use Rattle.image.specs.Reading.{call_of, first_call, is_new, built_from, fault}
use Rattle.image.proofs.Calling.{Made}
use Rattle.std.proofs.Math.Seq.{take-add}

-- one of the five lists, with the bytes of its records
pub record Table (X : Type 0) : Type 0 where
  pub list : ListName
  pub get : Lists → List X
  pub put : Lists → List X → Lists
  pub bytes : X → List ℕ
  pub put_get : (l : Lists) → put l (get l) ≡ l
  pub get_put : (l : Lists) (xs : List X) → get (put l xs) ≡ xs
  pub put_put : (l : Lists) (xs ys : List X) → put (put l xs) ys ≡ put l ys

row_on : {X : Type 0} (b : Bool) (rest : Result X Code) (f : Code) (y : X) → cond b rest (Err f) ≡ Ok y → (b ≡ true) × (rest ≡ Ok y)
row_on true rest f y e = (refl, e)
row_on false rest f y e = absurd cc

pub ok_same : (l m : Lists) → ◌≡◌ {A = Result Lists Code} (Ok l) (Ok m) → l ≡ m
ok_same l m e = cc

module _ {X : Type 0} (t : Table X) where
  -- a call that returns the next number has made a record of its bytes
  abbrev pub Makes : Type 0
  Makes = (l : Lists) (b : List ℕ) → length b ≡ width_of t.list → is_new (called l (call_of t.list b)).answer (length (t.get l)) ≡ true
      → Made t.bytes (λ x. t.put l (t.get l ++ x ∷ [])) b (called l (call_of t.list b)).lists

  -- the lists after n new records
  pub record Fed (l after : Lists) (n : ℕ) (bytes : List ℕ) : Type 0 where
    pub items : List X
    pub lists : after ≡ t.put l (t.get l ++ items)
    pub coded : flat_map t.bytes items ≡ bytes
    pub count : length items ≡ n

  fed_more : (l m after : Lists) (n : ℕ) (here rest bytes : List ℕ) → Made t.bytes (λ x. t.put l (t.get l ++ x ∷ [])) here m → Fed m after n rest → here ++ rest ≡ bytes → Fed l after (suc n) bytes
  fed_more l m after n here rest bytes one fed e =
      let x = one.item in
      let got : t.get m ≡ t.get l ++ x ∷ [] = ap t.get one.lists ∙ t.get_put l _ in
      record {
        items = x ∷ fed.items;
        lists = fed.lists
            ∙ ap (λ xs. t.put m (xs ++ fed.items)) got
            ∙ ap (t.put m) (append_assoc (t.get l) (x ∷ []) fed.items)
            ∙ ap (λ k. t.put k (t.get l ++ (x ∷ fed.items))) one.lists
            ∙ t.put_put l _ _;
        coded = ap (λ bs. bs ++ flat_map t.bytes fed.items) one.coded ∙ ap (λ bs. here ++ bs) fed.coded ∙ e;
        count = ap suc fed.count;
      }

  pub fed : Makes → (n : ℕ) (l : Lists) (k : ℕ) (after : Lists) (rest : List ℕ) → k ≡ length (t.get l) → n * width_of t.list ≤ length rest
      → built_from t.list rest l k n ≡ Ok after → Fed l after n (take (n * width_of t.list) rest)
  fed makes zero l k after rest same room e = record {
    items = [];
    lists = sym (ok_same l after e) ∙ sym (ap (t.put l) (append-nil (t.get l)) ∙ t.put_get l);
    coded = ap (λ m. take m rest) (sym (zero-mul (width_of t.list)));
    count = refl;
  }
  fed makes (suc n) l k after rest same room e =
      let w = width_of t.list in
      let wide : suc n * w ≡ n * w + w = suc-mul n w in
      let on = row_on (is_new (first_call t.list rest l).answer k) _ (fault (part_of t.list) k) after e in
      let m = (first_call t.list rest l).lists in
      let new : is_new (first_call t.list rest l).answer (length (t.get l)) ≡ true = ap (is_new (first_call t.list rest l).answer) (sym same) ∙ on.0 in
      let one = makes l (take w rest) (length-take-le w rest (omega arith)) new in
      let longer : k + 1 ≡ length (t.get m) =
      ap (λ i. i + 1) same ∙ sym (ap length (ap t.get one.lists ∙ t.get_put l _) ∙ length_push (t.get l) one.item) in
      let inner = fed makes n m (k + 1) after (drop w rest) longer (omega (arith, length-drop w rest)) on.1 in
      fed_more l m after n (take w rest) (take (n * w) (drop w rest)) _ one inner
      (sym (take-add w (n * w) rest) ∙ ap (λ i. take i rest) (omega arith))

  -- a record's call on lists with some records takes it as new
  abbrev pub New : Lists → List X → X → Type 0
  New l before x = called (t.put l before) (call_of t.list (t.bytes x)) ≡ record { answer = Ok (length before); lists = t.put l (before ++ x ∷ []) }

  pub takes : ((x : X) → length (t.bytes x) ≡ width_of t.list) → (l : Lists) (xs before : List X) (k : ℕ) (rest tail : List ℕ) → k ≡ length before
      → InTurn (New l) before xs → rest ≡ flat_map t.bytes xs ++ tail → built_from t.list rest (t.put l before) k (length xs) ≡ Ok (t.put l (before ++ xs))
  takes wide l [] before k rest tail same new e = ap (λ ys. Ok (t.put l ys)) (sym (append-nil before))
  takes wide l (x ∷ xs) before k rest tail same new e =
      let p = t.list in
      let w = width_of p in
      let split : rest ≡ t.bytes x ++ (flat_map t.bytes xs ++ tail) = e ∙ append_assoc (t.bytes x) (flat_map t.bytes xs) tail in
      let here : take w rest ≡ t.bytes x = ap (take w) split ∙ take_at (t.bytes x) (flat_map t.bytes xs ++ tail) w (wide x) in
      let after : drop w rest ≡ flat_map t.bytes xs ++ tail = ap (drop w) split ∙ drop_at (t.bytes x) (flat_map t.bytes xs ++ tail) w (wide x) in
      let came : first_call p rest (t.put l before) ≡ record { answer = Ok (length before); lists = t.put l (before ++ x ∷ []) } =
      ap (λ b. called (t.put l before) (call_of p b)) here ∙ new.0 in
      let longer : k + 1 ≡ length (before ++ x ∷ []) = ap (λ i. i + 1) same ∙ sym (length_push before x) in
      let inner = takes wide l xs (before ++ x ∷ []) (k + 1) (drop w rest) tail longer new.1 after in
      ap (λ (o : Outcome). cond (is_new o.answer k) (built_from p (drop w rest) o.lists (k + 1) (length xs)) (Err (fault (part_of p) k))) came
      ∙ ap (λ b. cond b (built_from p (drop w rest) (t.put l (before ++ x ∷ [])) (k + 1) (length xs)) (Err (fault (part_of p) k))) (eq-eqb (length before) k (sym same))
      ∙ inner
      ∙ ap (λ ys. Ok (t.put l ys)) (append_assoc before (x ∷ []) xs)
