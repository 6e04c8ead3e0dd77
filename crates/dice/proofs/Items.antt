use Rattle.std.proofs.Common.{◌≡◌, ℕ, ◌+◌, ◌%◌, ◌<◌, List, [], ◌++◌, length, Some, Ok, Option, sym, ap, ◌∙◌, subst}
use Rattle.std.proofs.lemmas.List.{append-nil}
use Rattle.der.specs.Encodes.{Coded}
use Rattle.der.specs.Items.{Shape, shape_of, item_of}
use Rattle.der.specs.Kinds.{Holder, item_at}
use Rattle.parts.specs.Parts.{Piece}
use Rattle.der.proofs.Encoded.{item_forth}
use Rattle.der.proofs.Back.{item_back}
use Rattle.refusals.proofs.Outcomes.{or_refuse_back, ok_same}

-- an item of a kind was written, and is found with its content
pub record Seen (kind : Shape → Option Piece) (c bs rest : List ℕ) (at : ℕ) : Type 0 where
  pub header : ℕ
  pub long : header + length c ≡ length bs
  pub some : 0 < header
  pub reads : item_at kind (record { at = at; bytes = bs ++ rest })
      ≡ Ok (record { content = record { at = at + header; bytes = c }; rest = record { at = at + length bs; bytes = rest } })

pub kind_forth : (kind : Shape → Option Piece) (tag : ℕ) (c bs rest : List ℕ) (at : ℕ) → ((p : Piece) → kind (shape_of tag p) ≡ Some p)
    → Coded tag c bs → Seen kind c bs rest at
kind_forth kind tag c bs rest at fits k =
    let f = item_forth tag c bs rest at k in
    record {
      header = f.header;
      long = f.long;
      some = f.some;
      reads = rw (f.reads, fits (record { at = at + f.header; bytes = c }));
    }

-- the same of an item behind which nothing is left
pub kind_whole : (kind : Shape → Option Piece) (tag : ℕ) (c bs : List ℕ) (at : ℕ) → ((p : Piece) → kind (shape_of tag p) ≡ Some p)
    → Coded tag c bs → (h : ℕ) × (h + length c ≡ length bs) × (0 < h)
    × (item_at kind (record { at = at; bytes = bs }) ≡ Ok (record { content = record { at = at + h; bytes = c }; rest = record { at = at + length bs; bytes = [] } }))
kind_whole kind tag c bs at fits k =
    let s = kind_forth kind tag c bs [] at fits k in
    (s.header, s.long, s.some, rw append-nil at s.reads)

-- an item of a kind that is found was written
pub record Was (tag : ℕ) (p : Piece) (h : Holder) : Type 0 where
  pub content : List ℕ
  pub bytes : List ℕ
  pub rest : List ℕ
  pub header : ℕ
  pub coded : Coded tag content bytes
  pub whole : p.bytes ≡ bytes ++ rest
  pub inside : h.content ≡ record { at = p.at + header; bytes = content }
  pub behind : h.rest ≡ record { at = p.at + length bytes; bytes = rest }
  pub some : 0 < length bytes

pub kind_back : (kind : Shape → Option Piece) (tag : ℕ) → tag % 32 < 31 → ((t : ℕ) (p q : Piece) → kind (shape_of t p) ≡ Some q → (t ≡ tag) × (p ≡ q))
    → (p : Piece) (h : Holder) → item_at kind p ≡ Ok h → Was tag p h
kind_back kind tag one fits p h e =
    let a = or_refuse_back (item_of p) _ _ h e in
    let b = or_refuse_back (kind a.0.item) _ _ h a.2 in
    let i = item_back p a.0 a.1 in
    let k = fits i.tag (record { at = p.at + i.header; bytes = i.content }) b.0 (ap kind (sym i.item) ∙ b.1) in
    let same = ok_same _ _ b.2 in
    let P : ℕ → Type 0 = λ t. Coded t i.content i.bytes in
    let known : i.tag % 32 < 31 = rw k.0 one in
    record {
      content = i.content;
      bytes = i.bytes;
      rest = i.rest;
      header = i.header;
      coded = subst P k.0 (i.known known);
      whole = i.whole;
      inside = sym (ap (λ (x : Holder). x.content) same) ∙ sym k.1;
      behind = sym (ap (λ (x : Holder). x.rest) same) ∙ i.behind;
      some = i.some;
    }
