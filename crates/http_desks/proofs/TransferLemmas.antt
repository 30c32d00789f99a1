-- The next block of a package, after those that were made.
use Rattle.std.proofs.Common.{◌≡◌, ℕ, ◌+◌, ◌-◌, ◌*◌, ◌<◌, ◌≤◌, List, [], ◌∷◌, ◌++◌, length, length-append, Option, Some, inr, sym, subst, ap, ◌∙◌, arith}
use Rattle.sha2.specs.Hashers.{Holds256}
use Rattle.http_desks.specs.Downloads.{IsRead, Reads, ReadsFrom, full_blocks, joined_blocks}
use Rattle.http_desks.specs.Transfers.{IsAt}
use Rattle.http_desks.specs.declared.transfer.Transfer.{Transfer}
use Rattle.http_desks.proofs.DownloadLemmas.{ReadsFrom-more, joined_blocks-more, read-same}

module _
    (reads : Reads) (transfer : Transfer) (blocks : List (List ℕ))
    (at : IsAt blocks transfer) (read : ReadsFrom reads 0 blocks)
  where
    -- a full block
    pub one_more :
        (next : Transfer) (block : List ℕ) (long : ℕ) → next.index ≡ transfer.index + 1 →
        transfer.index < full_blocks transfer.size → long ≡ 65536 → reads (transfer.index * 65536) long (Some block) →
        ((bytes : List ℕ) → Holds256 transfer.hasher bytes → Holds256 next.hasher (bytes ++ block)) →
        IsAt (blocks ++ block ∷ []) next × (length (blocks ++ block ∷ []) ≤ full_blocks transfer.size)
        × ReadsFrom reads 0 (blocks ++ block ∷ [])
    one_more next block long index below full here hashed =
        let place : transfer.index ≡ 0 + length blocks = omega (arith, at.many) in (
          record {
            many = omega (arith, index, at.many, length-append blocks (block ∷ []));
            hashed = subst (Holds256 next.hasher) (sym (joined_blocks-more blocks block)) (hashed (joined_blocks blocks) at.hashed);
          },
          omega (arith, at.many, below, length-append blocks (block ∷ [])),
          ReadsFrom-more reads 0 blocks block read (read-same reads _ _ _ _ (Some block) (ap (λ (n : ℕ). n * 65536) place) full here),
        )

    -- what the read of the last block gave
    pub at_last :
        (long : ℕ) (last : Option (List ℕ)) → full_blocks transfer.size ≤ transfer.index →
        long ≡ transfer.size - transfer.index * 65536 → reads (transfer.index * 65536) long last →
        IsRead reads transfer.size blocks last
    at_last long last all whole here =
        let same : transfer.index ≡ full_blocks transfer.size = omega (arith, all, transfer.few) in record {
          few = omega (arith, at.many, same);
          whole = read;
          next = inr (
            omega (arith, at.many, same),
            read-same reads _ _ _ _ last (ap (λ (n : ℕ). n * 65536) same) (whole ∙ ap (λ (n : ℕ). transfer.size - n * 65536) same) here,
          );
        }
