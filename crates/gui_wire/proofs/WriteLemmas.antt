-- What writes leave, one behind the other.
use Rattle.std.proofs.Common.{◌≡◌, ℕ, ◌+◌, ◌-◌, ◌≤◌, List, [], ◌++◌, length, take, drop, sym, ◌∙◌, ap, arith, append_assoc, length-drop}
use Rattle.std.proofs.lemmas.List.{append-nil, take_at, drop_at, take_all, drop_all, drop-drop}
use borrow.Rule.Slice.PartMut.{put_mid, post_of}

-- ys written behind xs, which stand at the front of what was there
pub written_behind : (at : ℕ) (a old xs ys part : List ℕ) → a ≡ xs ++ drop at old → length xs ≡ at → at ≤ length old
    → part ≡ ys ++ drop (length ys) (take (length a - at) (drop at a))
    → put_mid at (length a - at) a part ≡ (xs ++ ys) ++ drop (at + length ys) old
written_behind at a old xs ys part is size within then =
    let front : take at a ≡ xs = ap (take at) is ∙ take_at xs (drop at old) at size in
    let rest : drop at a ≡ drop at old = ap (drop at) is ∙ drop_at xs (drop at old) at size in
    let n = length a - at in
    let left : length (drop at a) ≤ n = omega (arith, length-drop at a) in
    let post : post_of at n a ≡ [] = drop_all n (drop at a) left in
    let behind : take n (drop at a) ≡ drop at old = take_all n (drop at a) left ∙ rest in
    let whole : part ≡ ys ++ drop (at + length ys) old = then ∙ ap (λ (l : List ℕ). ys ++ drop (length ys) l) behind ∙ ap (λ (l : List ℕ). ys ++ l) (drop-drop (length ys) at old) in
    ap (λ (l : List ℕ). l ++ (part ++ post_of at n a)) front
    ∙ ap (λ (l : List ℕ). xs ++ (part ++ l)) post
    ∙ ap (λ (l : List ℕ). xs ++ l) (append-nil part ∙ whole)
    ∙ sym (append_assoc xs ys (drop (at + length ys) old))
