-- Lines as they stand in texts, and what is read of them.
use Rattle.std.specs.Prelude.{ℕ, Bool, true, false, List, [], ◌∷◌, Option, Some, None, Result, Ok, Err, length, codes, bytes_eq}
use Rattle.gi_text.specs.Cutting.{slice}
use Rattle.gi_ir_spelling.specs.declared.token.Item.{Item}
use Rattle.gi_ir_spelling.specs.declared.place.Fault.{Fault}
use Rattle.gi_ir_spelling.specs.declared.place.Fault.TheVariants as fault
use Rattle.gi_ir_spelling.specs.declared.place.Placed.{Placed}
use Rattle.gi_ir_spelling.specs.Items.{items_in}
use Rattle.gi_ir_spelling.specs.Reading.{read_line}
use Rattle.gi_ir_spelling.specs.Words.{Defined}

-- what is told of a line: that it is right, that a token is unknown, or that something else is wrong
pub data Told : Type 0 where
  Right : Told
  WrongSyntax : Told
  WrongWord : List ℕ → Told

-- a line, with the names that are defined where it stands
pub record Example : Type 0 where
  pub defined : Defined
  pub line : List ℕ
  pub told : Told

abbrev pub told : (types values blocks : List (List ℕ)) → (line : List ℕ) → Told → Example
told types values blocks line answer = record { defined = record { types = types; values = values; blocks = blocks }; line = line; told = answer }

abbrev told_of_read : (line : List ℕ) → Result (List Placed) Fault → Told
told_of_read line (Ok placed) = Right
told_of_read line (Err fault.Syntax) = WrongSyntax
told_of_read line (Err (fault.Unknown start end)) = WrongWord (slice start end line)

abbrev told_of_items : (line : List ℕ) → Option (List Item) → Told
told_of_items line (Some items) = told_of_read line (read_line items)
told_of_items line None = WrongSyntax

abbrev is_same : Told → Told → Bool
is_same Right Right = true
is_same WrongSyntax WrongSyntax = true
is_same (WrongWord one) (WrongWord word) = bytes_eq one word
is_same one word = false

abbrev pub is_as_told : Example → Bool
is_as_told e = is_same (told_of_items e.line (items_in e.defined e.line 0 (length e.line))) e.told

-- ══ The lines ══

abbrev pub examples : List Example
examples =
    told ([]) (codes "%x" ∷ codes "%y" ∷ []) ([]) (codes "%y = add i32 %x 1, %none") WrongSyntax
    ∷ told ([]) (codes "%y" ∷ []) ([]) (codes "%y = add i32 %none, 1 foo") (WrongWord (codes "%none"))
    ∷ told ([]) ([]) ([]) (codes "frob i32 1, !x !{") (WrongWord (codes "frob"))
    ∷ told ([]) ([]) ([]) (codes "frob i32 ^") WrongSyntax
    ∷ told ([]) (codes "%x" ∷ codes "%y" ∷ []) ([]) (codes "%y = add nuw nuw i32 %x, 1") WrongSyntax
    ∷ told ([]) (codes "%x" ∷ codes "%y" ∷ []) ([]) (codes "%y = xor disjoint i32 %x, 1") WrongSyntax
    ∷ told ([]) (codes "%x" ∷ codes "%y" ∷ []) ([]) (codes "%y = sext nneg i8 %x to i32") WrongSyntax
    ∷ told ([]) (codes "%x" ∷ codes "%y" ∷ []) ([]) (codes "%y = icmp nuw eq i32 %x, 1") WrongSyntax
    ∷ told ([]) (codes "%x" ∷ codes "%y" ∷ []) ([]) (codes "%y = add fast i32 %x, 1") (WrongWord (codes "fast"))
    ∷ told ([]) (codes "%x" ∷ codes "%y" ∷ []) ([]) (codes "%y = freeze nuw i32 %x") (WrongWord (codes "nuw"))
    ∷ told ([]) (codes "%x" ∷ codes "%y" ∷ []) ([]) (codes "%y = add nsw nuw i32 %x, -1") Right
    ∷ told ([]) (codes "%x" ∷ codes "%y" ∷ []) ([]) (codes "%y = icmp samesign slt i32 %x, 1") Right
    ∷ told ([]) ([]) (codes "%L" ∷ []) (codes "br lable %L") (WrongWord (codes "lable"))
    ∷ told ([]) (codes "%y" ∷ []) ([]) (codes "%y = alloca <4 x i32>") WrongSyntax
    ∷ told ([]) (codes "%y" ∷ []) ([]) (codes "%y = alloca <{ i32 }>") WrongSyntax
    ∷ told ([]) (codes "%y" ∷ codes "%p" ∷ []) ([]) (codes "%y = load i32*, ptr %p") WrongSyntax
    ∷ told ([]) (codes "%y" ∷ []) ([]) (codes "%y = alloca I32") (WrongWord (codes "I32"))
    ∷ told ([]) (codes "%y" ∷ []) ([]) (codes "%y = alloca i0") (WrongWord (codes "i0"))
    ∷ told ([]) (codes "%y" ∷ []) ([]) (codes "%y = alloca i032") Right
    ∷ told ([]) (codes "%y" ∷ []) ([]) (codes "%y = alloca %none") (WrongWord (codes "%none"))
    ∷ told (codes "%T" ∷ []) (codes "%y" ∷ []) ([]) (codes "%y = alloca %T, align 16") Right
    ∷ told ([]) (codes "%p" ∷ []) ([]) (codes "store i32 zeroinitializer, ptr %p") WrongSyntax
    ∷ told ([]) (codes "%p" ∷ []) ([]) (codes "store i64 ptrtoint (ptr @g to i64), ptr %p") WrongSyntax
    ∷ told ([]) (codes "%p" ∷ []) ([]) (codes "store i32 none, ptr %p") WrongSyntax
    ∷ told ([]) (codes "%y" ∷ codes "%p" ∷ []) ([]) (codes "%y = load i32, ptr addrspace(1) %p") (WrongWord (codes "addrspace"))
    ∷ told ([]) (codes "%p" ∷ []) ([]) (codes "store ptr getelementptr inrange (i8, ptr @g, i32 1), ptr %p") (WrongWord (codes "inrange"))
    ∷ told ([]) (codes "%p" ∷ []) ([]) (codes "store ptr getelementptr inbounds nuw ([4 x i32], ptr @g, i32 0, i64 3), ptr %p, align 8") Right
    ∷ told ([]) (codes "%p" ∷ []) ([]) (codes "store ptr getelementptr (i8, ptr null, i32 1), ptr %p") WrongSyntax
    ∷ told (codes "%T" ∷ []) ([]) ([]) (codes "store ptr getelementptr (i8, ptr @g, i1 true), ptr getelementptr (%T, ptr @h)") Right
    ∷ told ([]) (codes "%x" ∷ []) ([]) (codes "%x = 5") WrongSyntax
    ∷ told ([]) (codes "%x" ∷ []) ([]) (codes "%x =") WrongSyntax
    ∷ told ([]) (codes "%y" ∷ []) ([]) (codes "%y = add i32 true, 1") WrongSyntax
    ∷ told ([]) (codes "%y" ∷ []) ([]) (codes "%y = icmp eq ptr 5, null") WrongSyntax
    ∷ told ([]) (codes "%y" ∷ []) ([]) (codes "%y = add i32 0x10, 1") WrongSyntax
    ∷ told ([]) (codes "%y" ∷ []) ([]) (codes "%y = add i1 true, false") Right
    ∷ told ([]) (codes "%y" ∷ []) ([]) (codes "%y = add i128 0001, -0") Right
    ∷ told (codes "%T" ∷ []) (codes "%y" ∷ []) ([]) (codes "%y = alloca [2 x { i8, [3 x ptr], {}, %T }], align 4096") Right
    ∷ told ([]) (codes "%y" ∷ []) ([]) (codes "%y = alloca [-1 x i8]") WrongSyntax
    ∷ told ([]) (codes "%y" ∷ []) ([]) (codes "%y = alloca [2 y i8]") WrongSyntax
    ∷ told ([]) (codes "%y" ∷ []) ([]) (codes "%y = alloca { i32, }") WrongSyntax
    ∷ told ([]) (codes "%y" ∷ []) ([]) (codes "%y = alloca [2 x void]") WrongSyntax
    ∷ told ([]) (codes "%x" ∷ codes "%y" ∷ []) ([]) (codes "%y = add { i32, frob } %x, 1") (WrongWord (codes "frob"))
    ∷ told ([]) (codes "%x" ∷ codes "%y" ∷ []) ([]) (codes "%y = add { i32 } %x, 1") WrongSyntax
    ∷ told ([]) (codes "%y" ∷ []) ([]) (codes "%y = alloca [1 x [1 x [1 x") WrongSyntax
    ∷ told ([]) (codes "%y" ∷ []) ([]) (codes "%y = alloca i32, i32 4") WrongSyntax
    ∷ told ([]) (codes "%y" ∷ []) ([]) (codes "%y = alloca i32, align 0") WrongSyntax
    ∷ told ([]) (codes "%y" ∷ []) ([]) (codes "%y = alloca i32, align 3") WrongSyntax
    ∷ told ([]) (codes "%y" ∷ []) ([]) (codes "%y = alloca i32, align 9223372036854775808") Right
    ∷ told ([]) (codes "%y" ∷ []) ([]) (codes "%y = alloca i32, align 9223372036854775809") Right
    ∷ told ([]) (codes "%y" ∷ []) ([]) (codes "%y = alloca i32, addrspace(1)") (WrongWord (codes "addrspace"))
    ∷ told ([]) (codes "%x" ∷ codes "%y" ∷ []) (codes "%L" ∷ codes "%M" ∷ []) (codes "%y = phi i32 [ 0, %L ], [ %x, %M ]") Right
    ∷ told ([]) (codes "%x" ∷ codes "%y" ∷ []) ([]) (codes "%y = phi i32 [ 0, %x ]") (WrongWord (codes "%x"))
    ∷ told ([]) (codes "%y" ∷ []) ([]) (codes "%y = phi i32") WrongSyntax
    ∷ told ([]) (codes "%x" ∷ []) ([]) (codes "br label %x") (WrongWord (codes "%x"))
    ∷ told ([]) (codes "%y" ∷ []) (codes "%L" ∷ []) (codes "%y = add i32 %L, 1") (WrongWord (codes "%L"))
    ∷ told ([]) (codes "%b" ∷ []) (codes "%L" ∷ codes "%M" ∷ []) (codes "br i1 %b, label %L, label %M") Right
    ∷ told ([]) (codes "%x" ∷ []) (codes "%L" ∷ codes "%M" ∷ []) (codes "br i8 %x, label %L, label %M") WrongSyntax
    ∷ told ([]) ([]) (codes "%L" ∷ []) (codes "br label %L, !llvm.loop !5") Right
    ∷ told ([]) (codes "%x" ∷ []) (codes "%L" ∷ codes "%M" ∷ []) (codes "switch i32 %x, label %L [ i32 1, label %M i32 -2, label %L ]") Right
    ∷ told ([]) (codes "%b" ∷ []) (codes "%L" ∷ []) (codes "switch i1 %b, label %L []") Right
    ∷ told ([]) (codes "%x" ∷ []) (codes "%L" ∷ codes "%M" ∷ []) (codes "switch i32 %x, label %L [ i32 undef, label %M ]") WrongSyntax
    ∷ told ([]) (codes "%x" ∷ []) (codes "%L" ∷ codes "%M" ∷ []) (codes "switch i32 %x, label %L [ i32 1, label %M, ]") WrongSyntax
    ∷ told ([]) ([]) ([]) (codes "ret void") Right
    ∷ told ([]) ([]) ([]) (codes "ret i32 poison") Right
    ∷ told ([]) ([]) ([]) (codes "ret void 1") WrongSyntax
    ∷ told ([]) ([]) ([]) (codes "ret") WrongSyntax
    ∷ told ([]) ([]) ([]) (codes "ret float 1") (WrongWord (codes "float"))
    ∷ told ([]) ([]) ([]) (codes "unreachable, !dbg !4") Right
    ∷ told (codes "%T" ∷ []) (codes "%x" ∷ codes "%y" ∷ codes "%p" ∷ []) ([]) (codes "%y = getelementptr inbounds nusw nuw %T, ptr %p, i32 0, i64 %x") Right
    ∷ told ([]) (codes "%y" ∷ []) ([]) (codes "%y = getelementptr i8, ptr undef") Right
    ∷ told ([]) (codes "%y" ∷ codes "%p" ∷ []) ([]) (codes "%y = load i32, ptr %p, align 4, !dbg !DILocation(line: 3, scope: !{}), !tbaa !2") Right
    ∷ told ([]) (codes "%y" ∷ codes "%p" ∷ []) ([]) (codes "%y = load i32, ptr %p, !dbg !7 4") WrongSyntax
    ∷ told ([]) (codes "%y" ∷ codes "%p" ∷ []) ([]) (codes "%y = load i32, ptr %p, !dbg !7,") WrongSyntax
    ∷ told ([]) (codes "%y" ∷ codes "%b" ∷ []) ([]) (codes "%y = select i1 %b, ptr null, ptr @g") Right
    ∷ told ([]) (codes "%y" ∷ codes "%p" ∷ []) ([]) (codes "%y = load volatile i32, ptr %p") (WrongWord (codes "volatile"))
    ∷ told ([]) (codes "%x" ∷ codes "%y" ∷ []) ([]) (codes "%y = icmp EQ i32 %x, 1") (WrongWord (codes "EQ"))
    ∷ told ([]) ([]) ([]) (codes "  br label %L1") (WrongWord (codes "%L1"))
    ∷ told ([]) (codes "%zz" ∷ []) ([]) (codes "  %zz = alloca %none") (WrongWord (codes "%none"))
    ∷ told ([]) (codes "%3" ∷ []) ([]) (codes "  fence i32 %3") (WrongWord (codes "fence"))
    ∷ told ([]) (codes "%v5" ∷ codes "%v6" ∷ []) ([]) (codes "  %v6 = xor opaque %v5, %v5") (WrongWord (codes "opaque"))
    ∷ told ([]) (codes "%v4.i" ∷ codes "%711" ∷ []) ([]) (codes "  %711 = lshr inbounds i1 %v4.i, false") WrongSyntax
    ∷ told ([]) (codes "%0" ∷ codes "%1" ∷ []) ([]) (codes "  store volatile i32 %1, ptr %0, align 4, !tbaa !6") (WrongWord (codes "volatile"))
    ∷ told ([]) (codes "%4" ∷ codes "%6" ∷ []) ([]) (codes "  %6 = load i32, ) %4, align 4, !dbg !24") WrongSyntax
    ∷ told ([]) (codes "%v6" ∷ codes "%v7" ∷ []) ([]) (codes "  %v7 = sdiv exact i1 %none, %v6") (WrongWord (codes "%none"))
    ∷ told ([]) (codes "%zz" ∷ []) ([]) (codes "  %zz = phi i32 [ 0, %none ]") (WrongWord (codes "%none"))
    ∷ told ([]) (codes "%_v11-x" ∷ codes "%.v12" ∷ []) ([]) (codes "%.v12 = !nosanitize i1 %_v11-x, %_v11-x, !a.b-c !9, !nosanitize !{} ") WrongSyntax
    ∷ told ([]) ([]) ([]) (codes "  %v12") WrongSyntax
    ∷ told ([]) (codes "%_v12-x" ∷ []) ([]) (codes "  %_v12-x = or i32 %f, 1") (WrongWord (codes "%f"))
    ∷ told ([]) ([]) (codes "%L1" ∷ []) (codes "  br{ %L1") (WrongWord (codes "%L1"))
    ∷ told ([]) (codes "%v5" ∷ codes "%v6" ∷ codes "%v11" ∷ []) ([]) (codes "  %v11 = icmp atomic samesign slt i5 %v6, %v5") (WrongWord (codes "atomic"))
    ∷ told ([]) (codes "%bf.load" ∷ []) ([]) (codes "   = and i16 %bf.load, -1017") WrongSyntax
    ∷ told ([]) (codes "%16" ∷ codes "%23" ∷ []) (codes "%7" ∷ codes "%15" ∷ []) (codes "  %16 = phi i32 [ 0!2 %7 ], [ %23, %15 ]") WrongSyntax
    ∷ told ([]) (codes "%zz" ∷ []) ([]) (codes "  %zz = store i32 %3, ptr @counter, align 4, !dbg !23, !tbaa !24") (WrongWord (codes "%3"))
    ∷ told ([]) (codes "%v8" ∷ codes "%v13" ∷ []) ([]) (codes "  %v13 = ptrtoint void %v8 to i32, !prof !1") WrongSyntax
    ∷ told ([]) (codes "%-v7" ∷ codes "%v8" ∷ []) ([]) (codes "  %v8 = ashr i80 %-v7, 64, !dbg !DILocation(line: 3, scope: !4) {") WrongSyntax
    ∷ told ([]) ([]) ([]) (codes "  %v1") WrongSyntax
    ∷ told ([]) (codes "%s3" ∷ codes "%v11" ∷ codes "%v12" ∷ []) ([]) (codes "  %v12 = getelementptr inalloca inbounds i16, ptr %s3, i16 %v11") (WrongWord (codes "inalloca"))
    ∷ told ([]) (codes "%a3" ∷ codes "%v8" ∷ []) ([]) (codes "  %v8 = frob i13 %a3 to i7") (WrongWord (codes "frob"))
    ∷ told ([]) (codes "%v13" ∷ codes "%v15" ∷ []) ([]) (codes "  %v15 = trunc i %v13 to i1") (WrongWord (codes "i"))
    ∷ told ([]) (codes "%-v8" ∷ []) ([]) (codes "%\"x y\" = load i16, ptr %-v8, align 4") WrongSyntax
    ∷ told ([]) (codes "%zz" ∷ []) ([]) (codes "  %zz = fadd float 1.0, 2.0") (WrongWord (codes "fadd"))
    ∷ told ([]) (codes "%v8" ∷ codes "%v9" ∷ []) ([]) (codes "  %v9 = icmp EQ i64 %v8, 4") (WrongWord (codes "EQ"))
    ∷ told ([]) (codes "%v5" ∷ codes "%v6" ∷ []) ([]) (codes "  %v6 = getelementptr inbounds i32, ptr @g0  i64 %v5") WrongSyntax
    ∷ told ([]) (codes "%v13" ∷ codes "%v15" ∷ codes "%v16" ∷ []) ([]) (codes "  %v16 = urem i1 %v13 %v15, !tbaa !2, !range !{i32 0, i32 9}") WrongSyntax
    ∷ told ([]) ([]) (codes "%L3" ∷ []) (codes "  br label %L3 `") WrongSyntax
    ∷ told ([]) (codes "%4" ∷ codes "%7" ∷ []) ([]) (codes "  %7 = invoke i16 %4, -1017") (WrongWord (codes "invoke"))
    ∷ told ([]) (codes "%$v4" ∷ []) ([]) (codes "  %$v4 = sext nneg nneg i7 %_a1-x to i64 ") WrongSyntax
    ∷ told ([]) (codes "%2" ∷ []) ([]) (codes "  %3   load i32, ptr %2, align 4, !dbg !27") WrongSyntax
    ∷ told ([]) (codes "%3" ∷ []) ([]) (codes "  ret float %3") (WrongWord (codes "float"))
    ∷ told ([]) (codes "%2" ∷ []) (codes "%L5" ∷ []) (codes "  br i1 %2, label %none, label %L5") (WrongWord (codes "%none"))
    ∷ told ([]) (codes "%s5" ∷ codes "%v7" ∷ []) ([]) (codes "  %v7 = ptrtoint ptr %s5 to i40, !tbaa !2, !range !{i32 0, i32") WrongSyntax
    ∷ told ([]) (codes "%zz" ∷ []) ([]) (codes "  %zz = alloca i32, addrspace(1)") (WrongWord (codes "addrspace"))
    ∷ told ([]) (codes "%v18" ∷ codes "%v19" ∷ []) ([]) (codes "  %v19 = icmp oeq i9 %v18, 4") (WrongWord (codes "oeq"))
    ∷ told ([]) (codes "%zz" ∷ []) ([]) (codes "  %zz = select i8 1, i32 1, i32 2") WrongSyntax
    ∷ told ([]) (codes "%v4" ∷ codes "%v7" ∷ []) ([]) (codes "  %v7 = select i1 %v4, i1 , i1 undef") WrongSyntax
    ∷ told ([]) ([]) ([]) (codes "declare i32 @llvm.ctpop.i32(i32) #1") (WrongWord (codes "declare"))
    ∷ told ([]) (codes "%v4" ∷ []) ([]) (codes "  %v4 = load i64, q8 @g1, align 2 ") (WrongWord (codes "q8"))
    ∷ told ([]) (codes "%3" ∷ codes "%v12" ∷ []) ([]) (codes "  %v12 = zext inbounds i7 %3 to i33, !a.b-c !9, !nosanitize !{}") WrongSyntax
    ∷ told ([]) ([]) ([]) (codes "  invoke void, !a.b-c !9, !nosanitize !{}") (WrongWord (codes "invoke"))
    ∷ told ([]) (codes "%v5" ∷ codes "%v7" ∷ []) ([]) (codes "  %v7 = sext i9 %v5 to i24") Right
    ∷ told ([]) (codes "%v4" ∷ codes "%$v6" ∷ []) ([]) (codes "%$v6 = zext nneg i64 %v4 to i96, !prof !1") Right
    ∷ told ([]) (codes "%v8" ∷ codes "%v13" ∷ codes "%v14" ∷ []) ([]) (codes "  %v14 = lshr i40 %v13, %v8") Right
    ∷ told ([]) (codes "%v7" ∷ codes "%v8" ∷ []) ([]) (codes "    %v8 = sub i32 %v7 , %v7 ") Right
    ∷ told ([]) (codes "%v5" ∷ codes "%v6" ∷ []) ([]) (codes "  %v6 = sext i1 %v5 to i32") Right
    ∷ told ([]) (codes "%1" ∷ codes "%v9" ∷ []) ([]) (codes "  %v9 = sext i1 %1 to i7, !tbaa !2, !range !{i32 0, i32 9}") Right
    ∷ told ([]) (codes "%v18" ∷ []) ([]) (codes "ret ptr %v18;") Right
    ∷ told ([]) (codes "%$s2" ∷ []) ([]) (codes "  %$s2 = alloca i32, align 8 ") Right
    ∷ told ([]) (codes "%v18" ∷ codes "%v19" ∷ []) ([]) (codes "%v19 = load i8, ptr %v18, align 1, !dbg !DILocation(line: 3, scope: !4);") Right
    ∷ told ([]) (codes "%3" ∷ codes "%v17" ∷ []) ([]) (codes "  %v17 = srem i8 %3, %3") Right
    ∷ told ([]) (codes "%a4" ∷ codes "%v9" ∷ []) ([]) (codes "  %v9 = trunc i64 %a4 to i16") Right
    ∷ told ([]) (codes "%v2" ∷ codes "%v3" ∷ codes "%v8" ∷ []) ([]) (codes "  %v8 = mul nuw i32 %v2, %v3") Right
    ∷ told ([]) (codes "%i6" ∷ codes "%v11" ∷ []) ([]) (codes "  %v11 = add i17 %i6, 1") Right
    ∷ told ([]) ([]) (codes "%L3" ∷ []) (codes "  br label %L3, !dbg !DILocation(line: 3, scope: !4)") Right
    ∷ told ([]) (codes "%5" ∷ codes "%7" ∷ codes "%8" ∷ []) ([]) (codes "  %8 = shl i32 %5, %7") Right
    ∷ told ([]) (codes "%v2" ∷ []) ([]) (codes "  store ptr %v2, ptr %v2, align 1") Right
    ∷ told ([]) (codes "%v4" ∷ codes "%v8" ∷ []) ([]) (codes "  %v8 = sext i1 %v4 to i8") Right
    ∷ told ([]) (codes "%2" ∷ codes "%5" ∷ []) ([]) (codes "  %5 = load i32, ptr %2, align 4") Right
    ∷ told ([]) (codes "%$v8" ∷ codes "%v9" ∷ codes "%v10.i" ∷ []) ([]) (codes "  %v10.i = ashr i32 %$v8, %v9, !dbg !DILocation(line: 3, scope: !4);") Right
    ∷ told ([]) (codes "%.v4" ∷ codes "%$v5" ∷ []) ([]) (codes "  %$v5 = udiv i3 %.v4, %.v4") Right
    ∷ told ([]) (codes "%a1" ∷ codes "%v2" ∷ []) ([]) (codes "  %v2 = trunc i48 %a1 to i1") Right
    ∷ told ([]) (codes "%v6" ∷ codes "%v7" ∷ []) ([]) (codes "  %v7 = xor i1 %v6, true") Right
    ∷ told ([]) (codes "%v12" ∷ codes "%v18" ∷ []) ([]) (codes "  %v18 = sext i8 %v12 to i64, !tbaa !2, !range !{i32 0, i32 9}") Right
    ∷ told ([]) (codes "%1" ∷ codes "%4" ∷ []) ([]) (codes "  store i32 %1, ptr %4, align 4") Right ∷ []
