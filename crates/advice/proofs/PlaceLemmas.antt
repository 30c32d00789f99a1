-- Lines from one on, as strings.
use Rattle.std.proofs.Common.{◌≡◌, ℕ, List, ap, drop, length, map, take}
use Rattle.std.specs.Borrow.{Bor}
use Rattle.std.proofs.lemmas.List.{drop-map, length-map, take-map}
use Rattle.advice.specs.Places.{header_after, key_after}

pub header_dropped : (header : List ℕ) (from skipped : ℕ) (lines : List (Bor (List ℕ))) →
    header_after header from skipped (drop from (map (λ line. line.now) lines))
    ≡ header_after header from skipped (map (λ line. line.now) (drop from lines))
header_dropped header from skipped lines = ap (header_after header from skipped) (drop-map (λ line. line.now) from lines)

pub key_dropped : (key : List ℕ) (from : ℕ) (lines : List (Bor (List ℕ))) →
    key_after key from (drop from (map (λ line. line.now) lines))
    ≡ key_after key from (map (λ line. line.now) (drop from lines))
key_dropped key from lines = ap (key_after key from) (drop-map (λ line. line.now) from lines)

pub lines_taken : (count : ℕ) (lines : List (Bor (List ℕ))) →
    take count (map (λ line. line.now) lines) ≡ map (λ line. line.now) (take count lines)
lines_taken count lines = take-map (λ line. line.now) count lines

pub lines_counted : (lines : List (Bor (List ℕ))) → length (map (λ line. line.now) lines) ≡ length lines
lines_counted lines = length-map lines (λ line. line.now)
