-- Lines one after another.
use Rattle.std.proofs.Common.{◌≡◌, ℕ, ◌+◌, ◌*◌, ◌≤◌, List, [], ◌∷◌, ◌++◌, map, length, refl, sym, ap, ◌∙◌, append_assoc, mul-le-mul, arith}
use Rattle.std.proofs.lemmas.List.{append-nil, length-append, length-map}
use Rattle.access.specs.declared.entities.Entity.{Entity}
use Rattle.access.specs.Lists.{Lists}
use Rattle.survey.proofs.Telling.{one_row}
use Rattle.listing.specs.Exposures.{ones, share}
use Rattle.listing.specs.Listings.{accounts_of, two_digits, four_digits, mark, line_of, IsLine, Lines}
use Rattle.listing.specs.Laws.{OneListing}

pub line_long : (es : List Entity) (a : ℕ) (row : List ℕ) → length (line_of es a row) ≡ length (accounts_of es) + 9
line_long es a row =
    let number : List ℕ = two_digits a ++ (32 ∷ []) in
    let marks = map (mark row) (accounts_of es) in
    let exposure : List ℕ = four_digits (share (ones row) (length es)) in
    length-append (number ++ marks ++ (32 ∷ []) ++ exposure) (10 ∷ [])
    ∙ omega (arith, length-append (number ++ marks ++ (32 ∷ [])) exposure, length-append (number ++ marks) (32 ∷ []), length-append number marks, length-map (accounts_of es) (mark row))

-- one line more
pub lines_more : (L : Lists) (accounts : List ℕ) (a : ℕ) (text line : List ℕ) → Lines L accounts text → IsLine L a line → Lines L (accounts ++ a ∷ []) (text ++ line)
lines_more L [] a text line e h = (line, [], h, refl, ap (λ zs. zs ++ line) e ∙ sym (append-nil line))
lines_more L (x ∷ accounts) a text line (first, rest, h, more, e) l =
    (first, rest ++ line, h, lines_more L accounts a rest line more l, ap (λ zs. zs ++ line) e ∙ append_assoc first rest line)

pub lines_long : (L : Lists) (accounts text : List ℕ) → Lines L accounts text → length text ≡ length accounts * (length (accounts_of L.entities) + 9)
lines_long L [] text e = ap length e ∙ grind arith
lines_long L (a ∷ accounts) text (line, rest, (row, r, s), more, e) =
    let n = ap length s ∙ line_long L.entities a row in
    let m = lines_long L accounts rest more in
    ap length e ∙ length-append line rest ∙ grind (arith, n, m)

-- one line more is within the lines of all accounts
pub lines_fit : (k n w : ℕ) → k + 1 ≤ n → k * w + w ≤ n * w
lines_fit k n w h =
    let most : (k + 1) * w ≤ n * w = mul-le-mul h (omega arith) in
    grind (arith, most)

lines_one : (L : Lists) (accounts text other : List ℕ) → Lines L accounts text → Lines L accounts other → text ≡ other
lines_one L [] text other e f = e ∙ sym f
lines_one L (a ∷ accounts) text other (line, rest, (row, i, s), more, e) (line-2, rest-2, (row-2, j, t), more-2, f) =
    let same : line ≡ line-2 = s ∙ ap (line_of L.entities a) (one_row L a row row-2 i j) ∙ sym t in
    e ∙ ap (λ zs. zs ++ rest) same ∙ ap (λ zs. line-2 ++ zs) (lines_one L accounts rest rest-2 more more-2) ∙ sym f

pub one_listing : OneListing
one_listing L = lines_one L (accounts_of L.entities)
