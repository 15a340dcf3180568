-- The same answer has the same parts.
use mathlib.Core.Path.{◌≡◌, ap}
use Prim.Native.Nat.{ℕ}
use Rattle.std.specs.Prelude.{Ok}
use Rattle.model.specs.declared.Span.{Span}
use Rattle.model.specs.declared.ReadLines.{ReadLines}
use Rattle.model.specs.declared.ReadPoint.{ReadPoint}
use Rattle.model.specs.declared.WrittenBytes.{WrittenBytes}
use Rattle.model.specs.Answer.{ReadAnswer, PointReadAnswer, WriteAnswer, lines_read, point_read, bytes_written}

pub same_lines : {n n' : ℕ} {pos neg pos' neg' : Span} → ◌≡◌ {A = ReadAnswer} (Ok (lines_read n pos neg)) (Ok (lines_read n' pos' neg')) →
    (n ≡ n') × (pos ≡ pos') × (neg ≡ neg')
same_lines {n} {n'} {pos} {neg} {pos'} {neg'} e =
    let all : lines_read n pos neg ≡ lines_read n' pos' neg' = cc in
    (ap (λ (x : ReadLines). x.count) all, ap (λ (x : ReadLines). x.positive) all, ap (λ (x : ReadLines). x.negative) all)

pub same_point : {n n' side side' way way' : ℕ} {span span' : Span} → ◌≡◌ {A = PointReadAnswer} (Ok (point_read n span way side)) (Ok (point_read n' span' way' side')) →
    (n ≡ n') × (span ≡ span') × (way ≡ way') × (side ≡ side')
same_point {n} {n'} {side} {side'} {way} {way'} {span} {span'} e =
    let all : point_read n span way side ≡ point_read n' span' way' side' = cc in
    (ap (λ (x : ReadPoint). x.count) all, ap (λ (x : ReadPoint). x.offset) all, ap (λ (x : ReadPoint). x.orientation) all, ap (λ (x : ReadPoint). x.side) all)

pub same_bytes : {n n' made made' excess excess' : ℕ} → ◌≡◌ {A = WriteAnswer} (Ok (bytes_written n made excess)) (Ok (bytes_written n' made' excess')) →
    (n ≡ n') × (made ≡ made') × (excess ≡ excess')
same_bytes {n} {n'} {made} {made'} {excess} {excess'} e =
    let all : bytes_written n made excess ≡ bytes_written n' made' excess' = cc in
    (ap (λ (x : WrittenBytes). x.bytes) all, ap (λ (x : WrittenBytes). x.tests) all, ap (λ (x : WrittenBytes). x.excess) all)
