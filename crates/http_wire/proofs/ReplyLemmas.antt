-- The parts of a reply, one after the other.
use Rattle.std.proofs.Common.{◌≡◌, ℕ, List, [], ◌++◌, ap, ◌∙◌, append_assoc}
use Rattle.std.specs.Prelude.{codes, decimal}
use Rattle.std.proofs.lemmas.List.{append-nil}
use Rattle.http_wire.specs.Replies.{status_line, type_line, allow_line, length_line, last_lines, head_bytes}
use Rattle.http_wire.specs.declared.heads.reply.ReplyHead.{ReplyHead}

in_order :
    (line before text after allow size last body : List ℕ) →
    line ++ (before ++ (text ++ (after ++ (allow ++ (codes "Content-Length: " ++ (size ++ (codes "\r\n" ++ (last ++ (body ++ [])))))))))
    ≡ (line ++ (before ++ (text ++ after)) ++ allow ++ (codes "Content-Length: " ++ size ++ codes "\r\n") ++ last) ++ body
in_order line before text after allow size last body = simp (append_assoc, append-nil)

pub head_bytes-parts :
    (head : ReplyHead) (line before text after allow size last body : List ℕ) →
    line ≡ status_line head.status →
    before ++ (text ++ after) ≡ type_line head.kind.now →
    allow ≡ allow_line head.allow →
    size ≡ decimal head.size →
    last ≡ last_lines head.closes →
    line ++ (before ++ (text ++ (after ++ (allow ++ (codes "Content-Length: " ++ (size ++ (codes "\r\n" ++ (last ++ (body ++ [])))))))))
    ≡ head_bytes head ++ body
unfolding head_bytes length_line
head_bytes-parts head line before text after allow size last body a b c d e =
    in_order line before text after allow size last body
    ∙ ap (λ (t : List ℕ). (t ++ (before ++ (text ++ after)) ++ allow ++ (codes "Content-Length: " ++ size ++ codes "\r\n") ++ last) ++ body) a
    ∙ ap (λ (t : List ℕ). (status_line head.status ++ t ++ allow ++ (codes "Content-Length: " ++ size ++ codes "\r\n") ++ last) ++ body) b
    ∙ ap (λ (t : List ℕ). (status_line head.status ++ type_line head.kind.now ++ t ++ (codes "Content-Length: " ++ size ++ codes "\r\n") ++ last) ++ body) c
    ∙ ap (λ (t : List ℕ). (status_line head.status ++ type_line head.kind.now ++ allow_line head.allow ++ (codes "Content-Length: " ++ t ++ codes "\r\n") ++ last) ++ body) d
    ∙ ap (λ (t : List ℕ). (status_line head.status ++ type_line head.kind.now ++ allow_line head.allow ++ length_line head.size ++ t) ++ body) e
